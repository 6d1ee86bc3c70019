pub mod Rows
pub mod Plan
pub mod Checked
pub mod Reads
pub mod Files
pub mod Summary
