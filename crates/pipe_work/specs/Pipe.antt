-- The steps of a pipeline as the definitions see them.
use Rattle.std.specs.Prelude.{List}
use Rattle.sub_types.specs.declared.kind.Ty.{Ty}
use Rattle.plan_pipes.specs.declared.pipe.Breaker.{Breaker}
use Rattle.plan_pipes.specs.declared.pipe.Step.{Step}
use Rattle.pipe_steps.specs.declared.built.BuiltTable.{BuiltTable}

-- the steps, the tables that joins take, the types of the columns of the input, and the breaker behind the steps
pub record StepsSeen : Type 0 where
  pub steps : List Step
  pub tables : List BuiltTable
  pub types : List Ty
  pub breaker : Breaker
