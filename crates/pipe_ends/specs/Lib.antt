pub mod Given
pub mod Held
pub mod Merged
pub mod Counts
