pub mod WriteLaws
pub mod BackwardsLaws
