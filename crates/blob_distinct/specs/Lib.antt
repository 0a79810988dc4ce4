pub mod Found
pub mod Images
pub mod Distinct
pub mod Explored
pub mod Printed
pub mod Words
