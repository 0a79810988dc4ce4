pub mod Decided
pub mod Outcomes
pub mod Explored
pub mod TwoWords
pub mod Sizes
