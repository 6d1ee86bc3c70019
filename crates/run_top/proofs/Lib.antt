pub mod AnswerLaws
pub mod CutLaws
pub mod DemoLaws
mod SummaryLaws
