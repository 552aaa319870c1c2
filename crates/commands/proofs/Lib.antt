pub mod Separators
pub mod Cut
pub mod Spelling
pub mod Replies
pub mod LongLines
pub mod Pieces
pub mod ReadBack
pub mod SpeltLines
