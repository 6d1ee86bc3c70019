pub mod Capped
pub mod Counts
pub mod Measures
pub mod Over
