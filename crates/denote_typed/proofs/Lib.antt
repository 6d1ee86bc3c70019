mod Worked
pub mod RowsLaws
pub mod FitLaws
pub mod EachLaws
pub mod ReadLaws
pub mod JoinLaws
pub mod SetLaws
pub mod MeasureLaws
pub mod GroupLaws
pub mod GroupSetLaws
pub mod Law
pub mod FillLaws
pub mod FillOpLaws
pub mod FillRelLaws
pub mod PlanLaw
