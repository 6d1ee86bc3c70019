pub mod ValueLaws
pub mod LoopLaws
pub mod PlaceLaws
