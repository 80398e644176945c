pub mod Ends
pub mod Counted
pub mod Largest
pub mod Plain
pub mod Example
pub mod Starred
