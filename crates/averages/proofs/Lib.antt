pub mod Best
pub mod Accepted
pub mod Example
