pub mod Labours
pub mod Workers
pub mod Room
