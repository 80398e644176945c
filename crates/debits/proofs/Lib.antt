pub mod Debits
