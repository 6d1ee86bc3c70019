pub mod Prefix
pub mod RowOrder
