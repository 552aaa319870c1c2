pub mod Kinds
pub mod Encoding
pub mod Binary
pub mod Thousandths
pub mod Examples
