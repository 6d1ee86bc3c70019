pub mod Apart
pub mod Receipts
pub mod Added
pub mod Blocks
pub mod Made
