pub mod Answering
pub mod Computed
pub mod Resultants
pub mod SomeSides
