mod RowLaws
mod StepLaws
mod TruthLaws
