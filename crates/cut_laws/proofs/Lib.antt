pub mod LevelLaws
pub mod StreamLaws
pub mod SortLaw
pub mod ConditionLaws
pub mod TypeLaws
pub mod ReadLaws
