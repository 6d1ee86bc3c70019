pub mod GatherLaws
pub mod PartLaws
pub mod PlaceLaws
pub mod ValueLaws
