pub mod Adding
pub mod Crashes
pub mod Laying
pub mod Opening
pub mod Outcomes
