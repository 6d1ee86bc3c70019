mod SpecLaws
mod TypedLaws
mod PartLaws
