pub mod EvalLaws
mod WorkedRows
mod WorkedRelations
pub mod DenoteLaws
pub mod ConjunctLaws
pub mod GlueLaws
pub mod SortLaws
pub mod OrderLaws
