pub mod PartLaws
pub mod ColumnLaws
pub mod MadeLaws
