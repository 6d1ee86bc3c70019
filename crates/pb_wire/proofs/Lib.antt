pub mod VarintLaws
pub mod ScanLaws
pub mod SizeLaws
pub mod PlaceLaws
pub mod LongerLaws
pub mod FieldLaws
pub mod PackedLaws
pub mod NumberLaws
