pub mod Calling
pub mod Bytes
