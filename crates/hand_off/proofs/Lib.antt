pub mod Bags
pub mod Steps
pub mod Popping
pub mod Gains
pub mod Notes
