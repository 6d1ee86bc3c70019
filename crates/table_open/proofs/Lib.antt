pub mod StepLaws
pub mod WordLaws
pub mod ColumnLaws
pub mod TableLaws
