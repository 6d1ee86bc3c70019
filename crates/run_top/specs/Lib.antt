pub mod Found
pub mod Answer
pub mod Demo
pub mod Command
pub mod SameRows
