pub mod Appending
pub mod Mixed
pub mod Pieces
pub mod Paged
pub mod Groups
pub mod Zeroed
