-- What the crates above name of the pieces that workers take.
pub use Rattle.pipe_work.specs.declared.held.HeldPiece.{HeldPiece}
pub use Rattle.pipe_work.specs.declared.kept.Kept.{Kept}
pub use Rattle.pipe_work.specs.declared.passed.Passed.{Passed}
pub use Rattle.pipe_work.specs.Kept.{Part, ArePartsOf, HaveParts, IsKeptOf, IsMade}
pub use Rattle.pipe_work.specs.Passed.{IsWorkedTo}
pub use Rattle.pipe_work.specs.Pipe.{StepsSeen}
