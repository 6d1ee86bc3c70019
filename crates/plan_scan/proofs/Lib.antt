pub mod FlawLaws
pub mod ReadableLaws
pub mod PieceLaws
pub mod MemberLaws
pub mod IndexLaws
pub mod WonLaws
pub mod ChoiceLaws
