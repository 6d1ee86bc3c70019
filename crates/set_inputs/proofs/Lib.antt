pub mod SpreadLaws
pub mod KeyLaws
