pub mod Rest
pub mod Ended
pub mod Fair
