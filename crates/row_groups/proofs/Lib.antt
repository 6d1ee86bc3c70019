pub mod AggregateLaws
pub mod GroupSetLaws
pub mod WholeLaws
