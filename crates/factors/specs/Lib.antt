pub mod Value
pub mod Factors
