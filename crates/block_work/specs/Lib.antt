pub mod Reads
pub mod Blocks
