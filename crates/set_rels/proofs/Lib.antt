pub mod PieceLaws
pub mod KeyedLaws
pub mod TakenLaws
pub mod TypedLaws
