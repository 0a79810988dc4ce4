pub mod Runs
pub mod SharedRuns
pub mod Visiting
pub mod LastReply
pub mod Exploring
pub mod Adding
pub mod Reading
