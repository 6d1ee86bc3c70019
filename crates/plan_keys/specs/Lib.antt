pub mod Digests
pub mod Groups
pub mod Keys
pub mod Places
