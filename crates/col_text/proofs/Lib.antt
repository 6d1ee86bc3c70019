pub mod TextLaws
pub mod PartsLaws
pub mod GatherLaws
pub mod EndLaws
pub mod NarrowLaws
