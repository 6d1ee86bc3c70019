pub mod Table
pub mod Flaw
pub mod Member
pub mod Seen
pub mod Scanned
pub mod Pieces
pub mod Index
pub mod Choice
