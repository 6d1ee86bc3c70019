-- A batch may go through steps in one way at most.
use Rattle.std.proofs.Common.{List, [], ◌∷◌}
use Rattle.std.proofs.Props.{props}
use Rattle.batch.specs.declared.batch.Batch.{Batch}
use Rattle.batch.specs.BatchRows.{rows_of, types_of}
use Rattle.plan_pipes.specs.declared.pipe.Step.{Step}
use Rattle.plan_pipes.specs.declared.pipe.Step.TheVariants as steps
use Rattle.pipe_steps.specs.FitProp.{AllFit-prop}
use Rattle.pipe_steps.specs.Ready.{IsReady}

pub IsReady-prop : (steps : List Step) (batch : Batch) → IsProp (IsReady steps batch)
IsReady-prop [] batch = AllFit-prop (types_of batch) (rows_of batch)
IsReady-prop (steps.Read relation names types filter mask ∷ more) batch = hlevel props
IsReady-prop (_ ∷ more) batch = AllFit-prop (types_of batch) (rows_of batch)
