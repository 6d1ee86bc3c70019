pub mod Tested
pub mod Fitting
pub mod Shaped
pub mod Opened
