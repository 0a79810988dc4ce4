pub mod Forms
pub mod Groups
pub mod Paged
pub mod Sizes
pub mod Stored
pub mod Values
