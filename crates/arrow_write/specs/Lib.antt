pub mod Pieces
pub mod Stored
pub mod Bodies
pub mod Progress
pub mod Cut
