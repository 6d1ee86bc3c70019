pub mod Exact
pub mod Joined
pub mod Chars
pub mod Wraps
pub mod Substring
pub mod Written
