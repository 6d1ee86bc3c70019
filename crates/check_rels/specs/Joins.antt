-- The check of a join in parts: its later condition, and its kind.
use Rattle.std.specs.Prelude.{ℕ, Option, ◌++◌}
use Rattle.std.specs.Option.{ok_or}
use Rattle.plan_leaves.specs.declared.common.RelCommon.{RelCommon}
use Rattle.plan_typed.specs.declared.expr.Expr.{Expr}
use Rattle.plan_typed.specs.declared.rel.JoinKind.{JoinKind}
use Rattle.plan_typed.specs.declared.rel.Op.TheVariants as ops
use Rattle.plan_typed.specs.declared.rel.Rel.{Rel}
use Rattle.plan_typed.specs.Types.{columns_of}
use Rattle.plan_verdict.specs.declared.rule.Rule.TheVariants as rules
use Rattle.plan_verdict.specs.Checking.{Checking, ◌>>=◌, part}
use Rattle.plan_verdict.specs.Meaning.{Expression}
use Rattle.plan_verdict.specs.Relation.{input, finished}
use Rattle.plan_verdict.specs.Rels.{over, maybe_condition, join_columns, join_kind, join_over}

-- a join with this condition, and perhaps a later one
abbrev pub join_with : ℕ → Option RelCommon → Rel → Rel → JoinKind → Expr → Option Expression → Checking Rel
join_with number common left right kind on post_join_filter = do
  post ← maybe_condition (over number (join_columns kind (columns_of left) (columns_of right))) post_join_filter
  finished number common (ops.Join left right kind on post) (join_columns kind (columns_of left) (columns_of right))

-- a join of these inputs, of the kind with this number
abbrev pub join_as : ℕ → Option RelCommon → Rel → Rel → Option Expression → Option Expression → ℕ → Checking Rel
join_as number common left right expression post_join_filter type = do
  kind ← part number (ok_or (join_kind type) rules.UnsupportedForm)
  join_over number common left right kind expression post_join_filter

-- a join of this left input, and of a right one
abbrev pub join_behind : ℕ → Option RelCommon → Rel → Option (ℕ → Checking Rel) → Option Expression → Option Expression → ℕ → Checking Rel
join_behind number common left right_written expression post_join_filter type = do
  right ← input number right_written
  join_as number common left right expression post_join_filter type

-- a cross join of this left input, and of a right one
abbrev pub cross_behind : ℕ → Option RelCommon → Rel → Option (ℕ → Checking Rel) → Checking Rel
cross_behind number common left right_written = do
  right ← input number right_written
  finished number common (ops.Cross left right) (columns_of left ++ columns_of right)
