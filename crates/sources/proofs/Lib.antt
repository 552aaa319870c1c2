pub mod Tables
pub mod Proposals
pub mod Worked
