pub mod JoinLaws
pub mod Made
pub mod RowLaws
pub mod TruthLaws
pub mod ValueLaws
