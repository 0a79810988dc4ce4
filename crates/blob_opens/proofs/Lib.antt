pub mod OpenHistory
pub mod OpenNames
