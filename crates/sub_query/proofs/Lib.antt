mod ExprLaws
mod PartLaws
mod ProgressLaws
mod RelLaws
mod RowLaws
mod WalkLaws
