pub mod OrderLaws
pub mod TypeLaws
pub mod AgreeLaws
pub mod JointLaws
