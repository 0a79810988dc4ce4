pub mod OpenNames
pub mod Opens
