pub mod Bare
pub mod Done
pub mod Fits
