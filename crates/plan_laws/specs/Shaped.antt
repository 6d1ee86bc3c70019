-- The shape of read relations.
use Rattle.std.specs.Prelude.{◌≡◌, length}
use Rattle.std.specs.List.{AllByRecursion}
use Rattle.sub_types.specs.Kind.{IsKind}
use Rattle.sub_types.specs.declared.kind.Ty.{Ty}
use Rattle.plan_reads.specs.declared.reads.PlanRead.{PlanRead}

-- as many names as types, and these of valid kinds
abbrev pub IsShaped : PlanRead → Type 0
IsShaped read = (length read.names ≡ length read.types) × AllByRecursion (λ (ty : Ty). IsKind ty.kind) read.types
