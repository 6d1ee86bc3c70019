pub mod PushLaws
pub mod SetLaws
