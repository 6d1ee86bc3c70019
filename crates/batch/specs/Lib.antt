pub mod ColumnValues
pub mod KindLaws
pub mod Built
pub mod BatchRows
pub mod Column
pub mod Lent
pub mod Growing
