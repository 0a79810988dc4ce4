pub mod Answers
pub mod Calls
pub mod Crashes
pub mod Drawn
pub mod Outcomes
