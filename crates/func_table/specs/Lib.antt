pub mod Kinds
pub mod Entry
pub mod Table
pub mod Find
pub mod Seen
pub mod Options
