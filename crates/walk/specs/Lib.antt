pub mod Walk
pub mod Digit
pub mod Location
pub mod Rounded
