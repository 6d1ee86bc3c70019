pub mod RunLaws
pub mod ProbeLaws
pub mod PiecesLaws
pub mod FetchLaws
