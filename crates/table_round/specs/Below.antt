-- What the crates above name of pieces and of a table's steps.
pub use Rattle.block_work.specs.declared.reading.TableSteps.{TableSteps}
pub use Rattle.block_work.specs.Reads.{StartsWithRead}
pub use Rattle.pipe_round.specs.Below.{HeldPiece, Part, ArePartsOf, HaveParts, StepsSeen}
