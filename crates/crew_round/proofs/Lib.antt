pub mod Leftover
pub mod Counted
pub mod Found
pub mod Order
pub mod Together
pub mod Settled
pub mod Giving
pub mod Whole
