pub mod FitProp
pub mod Tables
pub mod Ready
pub mod Marked
pub mod Through
pub mod Whole
pub mod Behind
pub mod Run
