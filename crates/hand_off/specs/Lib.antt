pub mod Hand
pub mod Rule
pub mod Passes
pub mod Work
