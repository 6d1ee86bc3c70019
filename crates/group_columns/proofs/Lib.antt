pub mod ColumnLaws
pub mod StepLaws
