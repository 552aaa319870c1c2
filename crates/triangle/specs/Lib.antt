pub mod Outcome
pub mod Answer
pub mod Examples
