pub mod Narrowed
pub mod Early
pub mod Chosen
pub mod Strict
pub mod Options
pub mod Found
pub mod Evaluated
pub mod Parts
