pub mod Side
pub mod Squares
pub mod Head
pub mod Bound
