pub mod Varint
pub mod Records
pub mod Seen
pub mod Payloads
