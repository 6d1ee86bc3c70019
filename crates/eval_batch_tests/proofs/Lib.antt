pub mod FitLaws
pub mod CallLaws
pub mod ChoiceLaws
