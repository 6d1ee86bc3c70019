pub mod Casts
pub mod Columns
pub mod ExprTyped
pub mod Results
pub mod Types
pub mod WellTyped
