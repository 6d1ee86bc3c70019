mod BehindLaws
mod KeptLaws
mod PlaceLaws
pub mod StepLaws
mod WindowLaws
