pub mod Stands
pub mod Limbs
pub mod Truncation
pub mod Sides
