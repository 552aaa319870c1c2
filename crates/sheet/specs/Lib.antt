pub mod Line
pub mod Hex
pub mod Pair
