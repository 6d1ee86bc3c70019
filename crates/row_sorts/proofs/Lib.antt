pub mod DistinctLaws
pub mod SameLaws
pub mod SetLaws
pub mod SortedLaws
