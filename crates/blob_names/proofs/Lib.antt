pub mod Copies
pub mod Maps
pub mod NameMaps
pub mod Orders
