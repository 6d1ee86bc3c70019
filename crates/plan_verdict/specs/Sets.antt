-- Set operations (Substrait `SetRel`).
use Rattle.std.specs.Prelude.{ℕ, List, ◌∷◌, Option, Some, None, Result, Ok, Err, ◌==◌, map, if◌then◌else◌}
use Rattle.std.specs.List.{list_all}
use Rattle.std.specs.Option.{ok_or}
use Rattle.sub_types.specs.ResultSteps.{◌>>=◌}
use Rattle.sub_types.specs.declared.kind.Ty.{Ty}
use Rattle.plan_leaves.specs.declared.common.RelCommon.{RelCommon}
use Rattle.plan_typed.specs.declared.rel.Op.TheVariants as ops
use Rattle.plan_typed.specs.declared.rel.Rel.{Rel}
use Rattle.plan_typed.specs.declared.rel.SetOp.{SetOp}
use Rattle.plan_typed.specs.declared.rel.SetOp.TheVariants as sets
use Rattle.plan_typed.specs.Types.{columns_of}
pub use Rattle.well_typed.specs.Columns.{is_nullable_in, is_nullable_at, are_of_kinds, set_columns}
use Rattle.plan_verdict.specs.declared.rule.Rule.{Rule}
use Rattle.plan_verdict.specs.declared.rule.Rule.TheVariants as rules
use Rattle.plan_verdict.specs.Columns.{finished_in}

-- SetRel.SetOp
abbrev pub set_op : ℕ → Option SetOp
set_op code =
    if code == 1 then Some sets.MinusPrimary
    else if code == 7 then Some sets.MinusPrimaryAll
    else if code == 3 then Some sets.IntersectionPrimary
    else if code == 4 then Some sets.IntersectionMultiset
    else if code == 8 then Some sets.IntersectionMultisetAll
    else if code == 5 then Some sets.UnionDistinct
    else if code == 6 then Some sets.UnionAll
    else None

-- the first input's columns and those of each other, where there are two inputs or more
abbrev pub first_and_others : List (List Ty) → Option (List Ty × List (List Ty))
first_and_others (first ∷ second ∷ others) = Some (first, second ∷ others)
first_and_others _ = None

-- the columns of a set operation of inputs of these columns, which are of the same kinds
abbrev pub set_columns_in : SetOp → List Ty → List (List Ty) → Result (List Ty) Rule
set_columns_in op first others = if list_all (are_of_kinds first) others then Ok (set_columns op first others) else Err rules.TypeMismatch

-- a set operation of these inputs
abbrev pub set_in : ℕ → Option RelCommon → List Rel → ℕ → Result Rel Rule
set_in number common rels code = do
  (first, others) ← ok_or (first_and_others (map columns_of rels)) rules.UnsupportedForm
  op ← ok_or (set_op code) rules.UnsupportedForm
  direct ← set_columns_in op first others
  finished_in number common (ops.Set rels op) direct
