pub mod Places
pub mod Told
pub mod Bodies
pub mod Seen
pub mod Absorbed
pub mod Made
