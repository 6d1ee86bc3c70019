pub mod SameLaws
pub mod DistinctLaws
pub mod TallyLaws
pub mod GroupLaws
pub mod SummaryLaws
pub mod StateLaws
pub mod ColumnLaws
pub mod SetLaws
pub mod PieceLaws
mod Worked
