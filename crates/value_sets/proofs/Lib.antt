pub mod SetLaws
pub mod AnswerLaws
