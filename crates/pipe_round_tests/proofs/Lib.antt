mod BreakerLaws
mod RestLaws
mod SpecLaws
mod StepLaws
mod TableLaws
