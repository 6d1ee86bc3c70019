pub mod FillLaws
pub mod TypedLaws
