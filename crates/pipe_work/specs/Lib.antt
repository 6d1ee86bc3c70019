pub mod Pipe
pub mod ReadyProp
pub mod Passed
pub mod Kept
pub mod Held
