pub mod Splits
pub mod OnlyAnswer
pub mod Reserve
pub mod LogLaw
pub mod OneLog
pub mod Extensions
