pub mod Totals
pub mod Kept
