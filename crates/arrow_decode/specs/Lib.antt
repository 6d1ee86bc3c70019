pub mod Offsets
pub mod Indices
pub mod Dictionary
pub mod RawColumn
pub mod Seen
pub mod Buffers
pub mod Characters
