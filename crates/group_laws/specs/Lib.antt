pub mod States
pub mod Merged
pub mod SetStates
pub mod Columns
pub mod Pieces
