pub mod Sized
pub mod Order
pub mod Listed
pub mod HeadSum
pub mod Poses
