pub mod DecimalLaws
pub mod MadeLaws
pub mod PlaceLaws
pub mod NullLaws
pub mod SearchLaws
pub mod PartLaws
pub mod RangeLaws
