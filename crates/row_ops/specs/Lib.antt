pub mod Behind
pub mod Kept
pub mod Stepped
pub mod Windows
