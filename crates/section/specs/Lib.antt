pub mod Value
pub mod Section
