pub mod Limits
pub mod Steps
pub mod Bounds
