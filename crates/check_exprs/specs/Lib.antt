pub mod Arms
pub mod Column
pub mod Parts
