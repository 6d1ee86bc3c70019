pub mod Taken
pub mod Marks
