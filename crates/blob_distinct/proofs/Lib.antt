pub mod Behind
pub mod Distinct
pub mod Outcomes
pub mod Table
pub mod PathWords
pub mod Printing
pub mod Refused
