pub mod Held
pub mod Nodes
pub mod Leaves
pub mod Exprs
pub mod Rels
pub mod Parts
pub mod Known
pub mod Spelled
