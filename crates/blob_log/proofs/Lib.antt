pub mod Refusing
pub mod Running
pub mod Scans
pub mod Surviving
