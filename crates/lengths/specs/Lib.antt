pub mod Asked
pub mod Plain
pub mod Posed
pub mod Finite
pub mod LengthOf
pub mod Right
pub mod Examples
pub mod CallText
