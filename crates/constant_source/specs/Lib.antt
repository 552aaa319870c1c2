pub mod Constant
pub mod Constants
