pub mod Glued
pub mod First
