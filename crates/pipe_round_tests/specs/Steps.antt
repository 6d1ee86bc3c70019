-- Steps over two columns of numbers.
use Rattle.std.specs.Prelude.{◌≡◌, List, [], ◌∷◌, Option, None, true}
use Rattle.std.specs.List.{All}
use Rattle.sub_types.specs.declared.kind.Kind.TheVariants as kinds
use Rattle.sub_types.specs.declared.kind.Ty.{Ty}
use Rattle.well_typed.specs.WellTyped.{IsConditionOver}
use Rattle.rel_specs.specs.declared.join.JoinSpec.{JoinSpec}
use Rattle.plan_pipes.specs.declared.pipe.Step.{Step}
use Rattle.plan_pipes.specs.declared.pipe.Step.TheVariants as steps
use Rattle.plan_pipes.specs.Run.{through}
use Rattle.pipe_types.specs.Exact.{exact_steps}
use Rattle.pipe_types.specs.Over.{AreStepsOver}
use Rattle.pipe_steps.specs.declared.built.BuiltTable.{BuiltTable}

abbrev pub number : Ty
number = record { kind = kinds.I64; nullable = true }

-- the columns of both sides of a join
abbrev pub sides : List Ty
sides = number ∷ number ∷ number ∷ number ∷ []

-- both are read and taken
abbrev pub IsReadAll : Step → Type 0
IsReadAll (steps.Read relation names types filter mask) = (types ≡ number ∷ number ∷ []) × (filter ≡ None) × (mask ≡ 0 ∷ 1 ∷ [])
IsReadAll _ = ⊥

-- the table is one for a join of two columns of numbers on each side, the rest of whose condition is well typed
pub record IsJoinOf (built : BuiltTable) : Type 0 where
  pub left : built.table.spec.left.items ≡ number ∷ number ∷ []
  pub right : built.table.spec.right.items ≡ number ∷ number ∷ []
  pub rest : All (IsConditionOver sides) built.table.spec.rest.items

-- the first step is a read relation's
abbrev pub StartWithRead : List Step → Type 0
StartWithRead (steps.Read relation names types filter mask ∷ more) = Unit {0}
StartWithRead _ = ⊥

-- steps from two columns of numbers to two columns of numbers
pub record AreSteps (joins : List (Option JoinSpec)) (all : List Step) : Type 0 where
  pub over : AreStepsOver joins (number ∷ number ∷ []) all
  pub same : through exact_steps joins all (number ∷ number ∷ []) ≡ number ∷ number ∷ []
  pub starts : StartWithRead all
