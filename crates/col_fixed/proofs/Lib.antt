pub mod Cleared
pub mod ColumnLaws
pub mod GatherLaws
pub mod LaneLaws
