pub mod Bodies
pub mod Inputs
