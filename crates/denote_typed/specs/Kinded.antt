-- Tables that hold values of the kinds that a relation reads them as.
use Rattle.std.specs.Prelude.{List, [], ◌∷◌}
use Rattle.std.specs.List.{AllByRecursion}
use Rattle.sub_types.specs.Stream.{Stream}
use Rattle.sub_types.specs.Value.{InKind}
use Rattle.sub_types.specs.declared.kind.Ty.{Ty}
use Rattle.sub_types.specs.declared.value.Value.{Value}
use Rattle.plan_typed.specs.declared.rel.Op.{Op, out-Op}
use Rattle.plan_typed.specs.declared.rel.Op.TheOpen.{Op-F}
use Rattle.plan_typed.specs.declared.rel.Rel.{Rel, Rel-F, every-Rel}
use Rattle.plan_typed.specs.declared.rel.Source.{Source}
use Rattle.plan_typed.specs.declared.rel.Source.TheVariants as sources
use Rattle.plan_denote.specs.Rows.{Row}
use Rattle.plan_denote.specs.Denote.{Tables}

-- the row has one value for each type, null or of its kind
abbrev pub AreInKinds : List Ty → List Value → Type 0
AreInKinds [] [] = Unit {0}
AreInKinds (ty ∷ types) (value ∷ row) = InKind ty.kind value × AreInKinds types row
AreInKinds _ _ = ⊥

-- each row of a table does. Nothing is said of nulls in required columns and of long texts, for which a read tests.
abbrev pub IsWellKinded : List Ty → Stream Row → Type 0
IsWellKinded types s = AllByRecursion (AreInKinds types) s.rows

-- a table that is read as these types
abbrev pub IsKindedSource : List Ty → Source → Stream Row → Type 0
IsKindedSource types (sources.Named names) s = IsWellKinded types s
IsKindedSource types (sources.Rows rows) s = Unit {0}

abbrev pub IsKindedRead : Op-F Op Rel → Stream Row → Type 0
IsKindedRead (Op-F.Read source names types filter mask) s = IsKindedSource types source s
IsKindedRead _ s = Unit {0}

-- the table of one relation, by its number
abbrev pub IsKindedRel : Tables → Rel-F Op Rel → Type 0
IsKindedRel tables rel = IsKindedRead (out-Op rel.op) (tables rel.number)

-- the table of each named read of a relation and of those below it
abbrev pub AreWellKinded : Tables → Rel → Type 0
AreWellKinded tables rel = every-Rel (λ _. Unit {0}) (IsKindedRel tables) rel
