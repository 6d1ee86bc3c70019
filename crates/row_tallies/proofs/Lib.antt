pub mod TotalLaws
pub mod TallyLaws
