pub mod AddedLaws
pub mod TakenLaws
pub mod RiseLaws
pub mod PartLaws
