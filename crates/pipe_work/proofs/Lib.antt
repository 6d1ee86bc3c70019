pub mod PassedLaws
pub mod KeptLaws
pub mod Crosses
