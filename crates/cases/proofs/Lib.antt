pub mod Stages
pub mod Represents
pub mod Bridge
pub mod Answer
pub mod Contracts
pub mod Whole
pub mod Sizes
