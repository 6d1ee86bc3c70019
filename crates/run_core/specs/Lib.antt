pub mod Counts
pub mod Receipts
pub mod Machine
pub mod Memory
pub mod Ready
