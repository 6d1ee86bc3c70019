pub mod Words
pub mod Columns
pub mod Files
pub mod Answers
pub mod Ready
pub mod Opened
