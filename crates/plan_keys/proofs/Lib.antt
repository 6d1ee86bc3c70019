pub mod PieceLaws
pub mod NumberLaws
pub mod PackLaws
pub mod KeyLevels
pub mod KeyLaws
pub mod FirstLaws
pub mod PlaceLaws
