pub mod Fold
pub mod Numbering
