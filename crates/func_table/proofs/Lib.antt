pub mod ListLaws
pub mod ApartLaws
pub mod KindLaws
pub mod KeyLaws
