pub mod FitLaws
pub mod ImpliedLaws
pub mod StoredLaws
