pub mod Numbers
pub mod Pairs
pub mod Posts
pub mod Putting
pub mod Rest
pub mod Words
