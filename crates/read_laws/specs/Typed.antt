-- Read relations of well-typed plans, and what they are read as.
use Rattle.std.specs.Prelude.{◌≡◌, ℕ, List, map}
use Rattle.std.specs.List.{AllByRecursion}
use Rattle.sub_types.specs.Kind.{IsKind}
use Rattle.sub_types.specs.declared.kind.Ty.{Ty}
use Rattle.plan_typed.specs.declared.rel.Rel.{Rel}
use Rattle.plan_typed.specs.Numbers.{numbers_of}
use Rattle.well_typed.specs.WellTyped.{IsSourceOf}
use Rattle.plan_denote.specs.Holes.{Known, filled}
use Rattle.cut_laws.specs.Found.{ReadRel, read_rels}

-- the columns of a read relation are of valid kinds, and its source is of their types
pub record IsTypedRead (read : ReadRel) : Type 0 where
  pub kinds : AllByRecursion (λ (ty : Ty). IsKind ty.kind) read.types
  pub source : IsSourceOf read.types read.source

-- a read relation's number and the types of its columns
abbrev pub read_as : ReadRel → ℕ × List Ty
read_as read = (read.number, read.types)

abbrev pub reads_as : Rel → List (ℕ × List Ty)
reads_as rel = map read_as (read_rels rel)

-- with the values of subqueries put in, a relation's numbers stay, and what is read stays as it was
pub record StaysAsRead (known : Known) (rel : Rel) : Type 0 where
  pub numbers : numbers_of (filled known rel) ≡ numbers_of rel
  pub reads : reads_as (filled known rel) ≡ reads_as rel
