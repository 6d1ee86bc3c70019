pub mod PlaceLaws
pub mod FaultLaws
pub mod FitLaws
pub mod EachLaws
pub mod RetypeLaws
pub mod EndLaws
pub mod KindLaws
pub mod FileLaws
