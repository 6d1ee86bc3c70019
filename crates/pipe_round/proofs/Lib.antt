pub mod Below
pub mod PutLaws
pub mod SettledLaws
pub mod MergedLaws
pub mod WorkedLaws
