pub mod States
pub mod Finals
pub mod Folding
