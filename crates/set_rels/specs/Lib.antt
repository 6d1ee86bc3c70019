pub mod Inputs
pub mod Keyed
pub mod Laws
