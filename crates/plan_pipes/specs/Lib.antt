pub mod Run
pub mod RowMeaning
pub mod TypeMeaning
pub mod Pieces
pub mod FetchPieces
