pub mod Frames
pub mod Limits
