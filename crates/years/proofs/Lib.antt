pub mod Years
pub mod Joined
