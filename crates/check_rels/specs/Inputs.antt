-- The checks of relations over an input that is checked.
use Rattle.std.specs.Prelude.{ℕ, ℤ, List, Option, ◌++◌, map}
use Rattle.plan_leaves.specs.declared.common.RelCommon.{RelCommon}
use Rattle.plan_typed.specs.declared.rel.Op.TheVariants as ops
use Rattle.plan_typed.specs.declared.rel.Rel.{Rel}
use Rattle.plan_typed.specs.declared.rel.SortKey.{SortKey}
use Rattle.plan_typed.specs.Types.{columns_of, ty_of}
use Rattle.plan_verdict.specs.Amounts.{amounts_in}
use Rattle.plan_verdict.specs.Checking.{Checking, ◌>>=◌, in_order, part}
use Rattle.plan_verdict.specs.Exprs.{condition, each_in}
use Rattle.plan_verdict.specs.Meaning.{Expression, Scope}
use Rattle.plan_verdict.specs.Relation.{finished}
use Rattle.plan_verdict.specs.Rels.{over}

-- a filter of this input
abbrev pub filter_over : ℕ → Option RelCommon → Rel → Option Expression → Checking Rel
filter_over number common rel test = do
  expr ← condition (over number (columns_of rel)) test
  finished number common (ops.Filter rel expr) (columns_of rel)

-- a fetch of this input
abbrev pub fetch_over : ℕ → Option RelCommon → Rel → Option (Option ℤ) → Option (Option ℤ) → Checking Rel
fetch_over number common rel from many = do
  (skipped, taken) ← part number (amounts_in from many)
  finished number common (ops.Fetch rel skipped taken) (columns_of rel)

-- a projection of this input
abbrev pub project_over : ℕ → Option RelCommon → Rel → List Expression → Checking Rel
project_over number common rel expressions = do
  exprs ← each_in (over number (columns_of rel)) expressions
  finished number common (ops.Project rel exprs) (columns_of rel ++ map ty_of exprs)

-- a sort of this input
abbrev pub sort_over : ℕ → Option RelCommon → Rel → List (Scope → Checking SortKey) → Checking Rel
sort_over number common rel sorts = do
  keys ← in_order (map (λ key. key (over number (columns_of rel))) sorts)
  finished number common (ops.Sort rel keys) (columns_of rel)
