mod PartLaws
mod ReadLaws
