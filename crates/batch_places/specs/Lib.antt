pub mod BatchRow
pub mod Places
