pub mod Before
pub mod Taking
pub mod Inputs
