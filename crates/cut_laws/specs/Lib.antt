pub mod Reads
pub mod Found
pub mod Keys
