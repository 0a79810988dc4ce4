pub mod Frames
pub mod Held
pub mod Leaves
pub mod Refused
pub mod Runs
