pub mod Value
pub mod Root
pub mod Length
pub mod Nearest
