pub mod Monotone
pub mod Limits
pub mod Counts
pub mod Ceiling
pub mod Highest
pub mod Accepted
