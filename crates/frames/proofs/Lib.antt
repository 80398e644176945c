pub mod Bytes
pub mod Accepted
pub mod Example
