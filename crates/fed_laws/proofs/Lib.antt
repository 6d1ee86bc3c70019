pub mod CountLaws
pub mod GivenLaws
