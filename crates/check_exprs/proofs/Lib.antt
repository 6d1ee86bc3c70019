pub mod ArmLaws
pub mod CallLaws
pub mod CheckedLaws
pub mod LevelLaws
pub mod OrderLaws
pub mod StepLaws
