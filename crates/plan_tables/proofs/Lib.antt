pub mod CountLaws
pub mod FileLaws
pub mod OpenLaws
pub mod ReadLaws
