pub mod Below
pub mod Merged
pub mod Settled
pub mod Unused
pub mod Worked
