pub mod Fresh
pub mod HalfLaws
