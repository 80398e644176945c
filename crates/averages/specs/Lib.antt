pub mod Averages
pub mod Bounds
