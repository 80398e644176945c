pub mod Worked
pub mod CutShort
pub mod Holding
pub mod Spelling
pub mod LineByLine
pub mod Writing
pub mod Example
