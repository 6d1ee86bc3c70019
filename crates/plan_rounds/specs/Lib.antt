pub mod Inputs
pub mod Ready
pub mod Receipts
pub mod Known
