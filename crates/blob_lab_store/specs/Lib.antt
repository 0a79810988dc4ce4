pub mod Generators
pub mod LabRuns
pub mod LabStands
pub mod Numbers
pub mod Slots
pub mod Tables
