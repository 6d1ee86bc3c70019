pub mod BitLaws
pub mod StreamLaws
pub mod StepLaws
