pub mod Native
pub mod Column
pub mod Masks
