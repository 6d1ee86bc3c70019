pub mod ShapeLaws
pub mod DictionaryLaws
pub mod ColumnLaws
pub mod Law
