-- The check of a read in parts: its filter and its projection, and its projection alone.
use Rattle.std.specs.Prelude.{ℕ, List, Option, length}
use Rattle.sub_types.specs.declared.kind.Ty.{Ty}
use Rattle.plan_leaves.specs.declared.common.RelCommon.{RelCommon}
use Rattle.plan_leaves.specs.declared.mask.MaskExpression.{MaskExpression}
use Rattle.plan_typed.specs.declared.expr.Expr.{Expr}
use Rattle.plan_typed.specs.declared.rel.Op.TheVariants as ops
use Rattle.plan_typed.specs.declared.rel.Rel.{Rel}
use Rattle.plan_typed.specs.declared.rel.Source.{Source}
use Rattle.plan_verdict.specs.Checking.{Checking, ◌>>=◌, part}
use Rattle.plan_verdict.specs.Columns.{columns_at, mask_in}
use Rattle.plan_verdict.specs.Meaning.{Expression}
use Rattle.plan_verdict.specs.Relation.{finished}
use Rattle.plan_verdict.specs.Rels.{over, maybe_condition}

-- a read of this source under this filter, and a projection
abbrev pub read_kept : ℕ → Option RelCommon → Source → List (List ℕ) → List Ty → Option Expr → Option MaskExpression → Checking Rel
read_kept number common table names types kept projection = do
  mask ← part number (mask_in (length types) projection)
  finished number common (ops.Read table names types kept mask) (columns_at types mask)

-- a read of this source, a filter over the base columns, and a projection
abbrev pub read_from : ℕ → Option RelCommon → Source → List (List ℕ) → List Ty → Option Expression → Option MaskExpression → Checking Rel
read_from number common table names types filter projection = do
  kept ← maybe_condition (over number types) filter
  read_kept number common table names types kept projection
