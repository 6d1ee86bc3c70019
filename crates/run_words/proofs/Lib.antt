pub mod NumberLaws
pub mod SaidLaws
pub mod AloneLaws
