pub mod SizeLaws
pub mod MetaLaws
pub mod TextLaws
pub mod OpenLaws
pub mod BlockLaws
pub mod HeadLaws
pub mod WantedLaws
pub mod IndexedLaws
