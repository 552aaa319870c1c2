pub mod Refusals
pub mod Printed
pub mod Reply
pub mod Sealing
pub mod Serving
pub mod Log
pub mod Law
pub mod Session
