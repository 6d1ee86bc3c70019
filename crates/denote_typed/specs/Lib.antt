pub mod Kinded
pub mod Holes
