pub mod Exact
pub mod Over
