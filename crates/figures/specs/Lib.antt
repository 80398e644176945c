pub mod Posts
pub mod Changed
