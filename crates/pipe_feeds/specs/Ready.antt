-- What feeds a pipeline behind its first step, which reads.
use Rattle.std.specs.Prelude.{◌≡◌, ◌≤◌, ℕ, List, Option, length, drop, take}
use Rattle.std.specs.List.{AllByRecursion}
use Rattle.sub_types.specs.Kind.{IsKind}
use Rattle.sub_types.specs.declared.kind.Ty.{Ty}
use Rattle.sub_types.specs.Stream.{Stream}
use Rattle.rel_specs.specs.declared.join.JoinSpec.{JoinSpec}
use Rattle.plan_typed.specs.declared.expr.Expr.{Expr}
use Rattle.well_typed.specs.Columns.{columns_at}
use Rattle.well_typed.specs.WellTyped.{AreBelow}
use Rattle.join_columns.specs.Sides.{kinds_of}
use Rattle.plan_denote.specs.Denote.{maybe_condition}
use Rattle.plan_denote.specs.Read.{read_rows}
use Rattle.set_rels.specs.Inputs.{stream_of}
use Rattle.plan_denote.specs.Rows.{Row}
use Rattle.plan_pipes.specs.declared.pipe.Step.{Step}
use Rattle.plan_pipes.specs.Run.{through}
use Rattle.plan_pipes.specs.RowMeaning.{Table, row_steps}
use Rattle.pipe_types.specs.Exact.{exact_steps}
use Rattle.pipe_types.specs.Over.{AreStepsOver}
use Rattle.pipe_ends.specs.Given.{IsInput}
use Rattle.pipe_feeds.specs.declared.feed.Through.{Through}

-- the first step is a read with these types, filter and columns over columns of the given types: through the other steps what it gives
-- are the same types and rows as through all
pub record IsReadFirst (joins : List (Option JoinSpec)) (given types : List Ty) (reader : ℕ) (filter : Option Expr) (mask : List ℕ) (all : List Step) : Type 0 where
  pub kinds : AllByRecursion (λ (ty : Ty). IsKind ty.kind) types
  pub same : kinds_of given ≡ kinds_of types
  pub below : AreBelow (length types) mask
  pub within : 1 ≤ length all
  pub stored : through exact_steps joins (take 1 all) given ≡ columns_at types mask
  pub over : AreStepsOver joins (columns_at types mask) (drop 1 all)
  pub types_later : through exact_steps joins (drop 1 all) (columns_at types mask) ≡ through exact_steps joins all given
  pub rows_later : (rights : List Table) (s : Stream Row) → through row_steps rights (drop 1 all) (read_rows reader types (maybe_condition filter) mask s) ≡ through row_steps rights all s

-- pieces that have passed the first step: through the others they are stored with the same types as columns of these types through all,
-- and give what the stream gives through all
pub record HasPassed (joins : List (Option JoinSpec)) (steps : List Step) (types : List Ty) (stream : Stream Row) (fed : Through) : Type 0 where
  pub within : 1 ≤ length steps
  pub stores : through exact_steps joins (drop 1 steps) fed.types.items ≡ through exact_steps joins steps types
  pub over : AreStepsOver joins fed.types.items (drop 1 steps)
  pub input : IsInput fed.types.items fed.pieces.items
  pub rows : (rights : List Table) → through row_steps rights (drop 1 steps) (stream_of fed.pieces.items) ≡ through row_steps rights steps stream
