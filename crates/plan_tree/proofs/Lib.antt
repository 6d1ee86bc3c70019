pub mod CountLaws
mod Worked
