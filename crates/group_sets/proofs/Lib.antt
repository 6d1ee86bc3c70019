pub mod FoldLaws
pub mod FinalLaws
pub mod TypeLaws
pub mod ColumnLaws
