pub mod CountLaws
pub mod GroupLaws
pub mod MeasureLaws
pub mod CapLaws
