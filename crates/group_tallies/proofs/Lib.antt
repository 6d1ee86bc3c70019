pub mod TotalLaws
pub mod KeptLaws
pub mod RunningLaws
pub mod GroupLaws
