pub mod Value
pub mod Years
