pub mod Rules
pub mod Outcomes
pub mod Working
pub mod Plain
pub mod Rivals
pub mod Starred
pub mod Amounts
