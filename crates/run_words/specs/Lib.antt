pub mod Words
pub mod ReadingSeen
pub mod Lines
pub mod Said
pub mod Alone
