pub mod TextLaws
pub mod SegmentLaws
pub mod SignLaws
pub mod StepLaws
pub mod EndLaws
