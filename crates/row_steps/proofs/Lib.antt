pub mod EachLaws
pub mod GlueLaws
pub mod ListLaws
pub mod FilterLaws
pub mod ZipLaws
pub mod JoinedLaws
pub mod NullLaws
