pub mod Employers
pub mod Bounds
