-- What pipelines store is of kinds that may stand in a plan.
use Rattle.std.specs.Prelude.{List, Option, Some, None}
use Rattle.std.specs.List.{AllByRecursion}
use Rattle.sub_types.specs.Kind.{IsKind}
use Rattle.sub_types.specs.declared.kind.Ty.{Ty}
use Rattle.rel_specs.specs.declared.join.JoinSpec.{JoinSpec}
use Rattle.plan_pipes.specs.Run.{Past}

-- types of valid kinds
abbrev pub AreKinds : List Ty → Type 0
AreKinds types = AllByRecursion (λ (ty : Ty). IsKind ty.kind) types

-- the right columns of a join are
abbrev pub HasRightKinds : Option JoinSpec → Type 0
HasRightKinds None = Unit {0}
HasRightKinds (Some join) = AreKinds join.right.items

-- so are the columns that pipelines stored, and those of the tables that they built
abbrev pub StoresKinds : Past (List Ty) (Option JoinSpec) → Type 0
StoresKinds past = AllByRecursion AreKinds past.streams × AllByRecursion HasRightKinds past.tables
