pub mod Halvers
pub mod Pieces
