pub mod Answering
pub mod Appending
pub mod Exploring
pub mod Following
pub mod Forking
pub mod Growing
pub mod TakenLines
pub mod Unescaping
