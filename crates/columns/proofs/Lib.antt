pub mod Entries
pub mod ColumnLogs
