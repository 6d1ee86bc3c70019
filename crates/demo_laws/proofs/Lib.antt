mod CountedLaws
pub mod AcceptedLaws
pub mod ReadsLaws
mod OpenedLaws
pub mod SpelledLaws
pub mod FittingLaws
mod CleanLaws
pub mod DemoLevels
mod FewLaws
mod ShapeLaws
mod SumLaws
pub mod DemoRowLaws
mod FileFound
mod FileSizes
mod FileRows
pub mod FilesOpened
