pub mod Tables
pub mod Open
pub mod Refused
pub mod Read
