pub mod RunLaws
pub mod KindLaws
