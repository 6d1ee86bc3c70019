pub mod PairLaws
pub mod OnceLaws
