mod BodyLaws
mod EndLaws
mod RunLaws
mod FitLaws
mod ErrorLaws
