pub mod Shown
pub mod Together
