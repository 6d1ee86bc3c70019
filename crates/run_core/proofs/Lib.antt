pub mod Ties
pub mod Counting
pub mod Steps
pub mod Runs
