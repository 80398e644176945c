pub mod State
pub mod Running
pub mod Whole
