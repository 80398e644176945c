pub mod Value
pub mod Debits
