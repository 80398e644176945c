pub mod CutShort
