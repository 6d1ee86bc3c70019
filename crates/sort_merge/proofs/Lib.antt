pub mod ArrangedLaws
pub mod OrderLaws
pub mod PlaceLaws
pub mod PrefixLaws
pub mod RisingLaws
pub mod RowLaws
pub mod TieLaws
