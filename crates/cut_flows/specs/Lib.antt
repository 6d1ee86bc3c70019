pub mod Tables
pub mod Flows
pub mod Given
