pub mod Keeping
pub mod Recreation
pub mod Steps
