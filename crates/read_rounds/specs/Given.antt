-- What is kept of what the steps of a pipeline give.
use Rattle.std.specs.Prelude.{List}
use Rattle.sub_types.specs.Stream.{Stream}
use Rattle.plan_denote.specs.Rows.{Row}
use Rattle.plan_pipes.specs.Run.{through}
use Rattle.plan_pipes.specs.RowMeaning.{row_steps}
use Rattle.pipe_types.specs.Exact.{exact_steps}
use Rattle.pipe_steps.specs.Tables.{joins_of, tables_seen}
pub use Rattle.table_round.specs.Below.{Part, ArePartsOf, HaveParts, StepsSeen}

-- parts, for the pipeline's breaker, of what its steps give over these rows
abbrev pub ArePartsThrough : StepsSeen → Stream Row → List Part → Type 0
ArePartsThrough pipe rows parts = ArePartsOf pipe.breaker (through exact_steps (joins_of pipe.tables) pipe.steps pipe.types) (through row_steps (tables_seen pipe.tables) pipe.steps rows) parts
