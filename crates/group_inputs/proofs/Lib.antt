pub mod UntilLaws
pub mod ChosenLaws
pub mod EachLaws
pub mod InputLaws
