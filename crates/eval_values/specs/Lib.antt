pub mod Gives
pub mod Number
