pub mod KindLaws
pub mod Crosses
