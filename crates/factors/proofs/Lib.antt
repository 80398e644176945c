pub mod Factors
pub mod Given
