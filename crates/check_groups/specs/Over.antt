-- The checks of aggregates over an input and groups that are checked.
use Rattle.std.specs.Prelude.{ℕ, List, Option, map}
use Rattle.plan_leaves.specs.declared.common.RelCommon.{RelCommon}
use Rattle.plan_typed.specs.declared.rel.Rel.{Rel}
use Rattle.plan_typed.specs.declared.rel.SetMeasure.{SetMeasure}
use Rattle.plan_typed.specs.Types.{columns_of}
use Rattle.plan_verdict.specs.declared.groups.Groups.{Groups}
use Rattle.plan_verdict.specs.Aggregates.{aggregate_op, aggregate_columns}
use Rattle.plan_verdict.specs.Checking.{Checking, ◌>>=◌, in_order}
use Rattle.plan_verdict.specs.Meaning.{Scope}
use Rattle.plan_verdict.specs.Relation.{finished}
use Rattle.plan_verdict.specs.Rels.{over}

-- the measures of an aggregate over this input, with these groups
abbrev pub aggregate_with : ℕ → Option RelCommon → Rel → Groups → List (Scope → Checking SetMeasure) → Checking Rel
aggregate_with number common rel found measures = do
  checked ← in_order (map (λ one. one (over number (columns_of rel))) measures)
  finished number common (aggregate_op rel found checked) (aggregate_columns found checked)
