pub mod KeyBytes
pub mod Keys
