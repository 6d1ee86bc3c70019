pub mod Bodies
pub mod Given
pub mod Told
