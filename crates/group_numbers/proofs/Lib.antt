pub mod CodeLaws
pub mod SameLaws
pub mod PlaceLaws
pub mod DistinctLaws
pub mod TwinLaws
pub mod WholeLaws
