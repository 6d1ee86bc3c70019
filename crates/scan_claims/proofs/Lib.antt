pub mod Views
pub mod Draws
