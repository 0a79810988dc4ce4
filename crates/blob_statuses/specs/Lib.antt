pub mod Effects
pub mod Powers
pub mod Statuses
