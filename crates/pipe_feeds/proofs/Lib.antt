pub mod KeptLaws
pub mod TakenLaws
pub mod FirstLaws
