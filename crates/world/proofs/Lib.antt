pub mod TableLaws
pub mod Writing
