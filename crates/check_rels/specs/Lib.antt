pub mod Inputs
pub mod Joins
pub mod SetParts
pub mod ReadParts
