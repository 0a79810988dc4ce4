pub mod Fits
pub mod Losses
pub mod Numbers
pub mod Overlays
pub mod Scans
