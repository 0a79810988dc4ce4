pub mod Answers
pub mod Records
