pub mod Refusals
pub mod Column
pub mod ColumnLog
pub mod Examples
