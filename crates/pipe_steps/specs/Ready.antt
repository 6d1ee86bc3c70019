-- Which batches may go through steps.
use Rattle.std.specs.Prelude.{List, ◌∷◌}
use Rattle.std.specs.List.{All}
use Rattle.sub_types.specs.Value.{Fits}
use Rattle.batch.specs.declared.batch.Batch.{Batch}
use Rattle.batch.specs.BatchRows.{rows_of, types_of}
use Rattle.plan_pipes.specs.declared.pipe.Step.{Step}
use Rattle.plan_pipes.specs.declared.pipe.Step.TheVariants as steps

-- the rows fit the types of the columns
abbrev pub IsFit : Batch → Type 0
IsFit batch = All (Fits (types_of batch)) (rows_of batch)

-- a step that tests the rows itself takes any
abbrev pub IsReady : List Step → Batch → Type 0
IsReady (steps.Read relation names types filter mask ∷ more) batch = Unit {0}
IsReady _ batch = IsFit batch
