pub mod Steps
pub mod ExprLaws
pub mod RowLaws
pub mod RelLaws
pub mod AggregateLaws
pub mod LevelLaws
pub mod PartLevelLaws
pub mod PlanLevelLaws
