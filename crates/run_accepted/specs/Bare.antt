-- A plan that is one bare read: it gives all columns of tables by their names, in order and as they are.
use Rattle.std.specs.Prelude.{◌≡◌, ℕ, List, [], Option, None, length}
use Rattle.std.specs.List.{range_with_len}
use Rattle.sub_types.specs.declared.kind.Ty.{Ty}
use Rattle.plan_typed.specs.declared.expr.Expr.{Expr}
use Rattle.plan_typed.specs.declared.rel.Op.{Op, out-Op}
use Rattle.plan_typed.specs.declared.rel.Op.TheOpen.{Op-F}
use Rattle.plan_typed.specs.declared.rel.Rel.{Rel, out-Rel}
use Rattle.plan_typed.specs.declared.rel.Source.{Source}
use Rattle.plan_typed.specs.declared.rel.Source.TheVariants as sources
use Rattle.plan_typed.specs.declared.sub.Holed.{Holed}
use Rattle.plan_typed.specs.Types.{columns_of}

-- the places of so many columns, in order
abbrev pub all_places : ℕ → List ℕ
all_places count = range_with_len 0 count

-- tables by their names
abbrev pub IsNamed : Source → Type 0
IsNamed (sources.Named names) = Unit {0}
IsNamed (sources.Rows rows) = ⊥

-- a read of tables with columns of these types: each row of theirs, and all columns in order
pub record ReadsAll (columns : List Ty) (source : Source) (types : List Ty) (filter : Option Expr) (mask : List ℕ) : Type 0 where
  pub named : IsNamed source
  pub types_are : types ≡ columns
  pub each_row : filter ≡ None
  pub each_column : mask ≡ all_places (length columns)

abbrev pub IsBareOp : List Ty → Op-F Op Rel → Type 0
IsBareOp columns (Op-F.Read source names types filter mask) = ReadsAll columns source types filter mask
IsBareOp columns _ = ⊥

-- and it emits all of them
pub record IsBareRead (rel : Rel) : Type 0 where
  pub reads_all : IsBareOp (columns_of rel) (out-Op (out-Rel rel).op)
  pub emits_all : (out-Rel rel).emit ≡ all_places (length (columns_of rel))

-- there is no subquery beside it
pub record IsBare (plan : Holed) : Type 0 where
  pub alone : plan.subs ≡ []
  pub read : IsBareRead plan.typed.rel
