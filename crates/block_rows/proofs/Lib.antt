pub mod KindLaws
pub mod MadeLaws
