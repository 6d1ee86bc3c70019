pub mod TextLaws
pub mod ListLaws
pub mod StepLaws
pub mod NameLaws
pub mod MarkLaws
pub mod SameLaws
pub mod EqualLaws
pub mod HeldLaws
