pub mod BatchLaws
pub mod MoreLaws
