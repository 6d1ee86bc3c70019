pub mod Layout
pub mod Object
pub mod Reading
pub mod ReadBack
pub mod Writing
pub mod Laws
