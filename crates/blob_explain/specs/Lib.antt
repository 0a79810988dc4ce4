pub mod Choices
pub mod Explained
pub mod Explanations
