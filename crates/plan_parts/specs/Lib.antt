pub mod Words
pub mod Parts
pub mod Shapes
pub mod Types
pub mod Rels
pub mod Exprs
pub mod Reader
pub mod CanRead
