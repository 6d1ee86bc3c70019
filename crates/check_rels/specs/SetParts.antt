-- The check of a set operation in parts: which it is, and its columns.
use Rattle.std.specs.Prelude.{ℕ, List, Result, Ok, map}
use Rattle.std.specs.Option.{ok_or}
use Rattle.sub_types.specs.ResultSteps.{◌>>=◌}
use Rattle.sub_types.specs.declared.kind.Ty.{Ty}
use Rattle.plan_typed.specs.declared.rel.Rel.{Rel}
use Rattle.plan_typed.specs.declared.rel.SetOp.{SetOp}
use Rattle.plan_typed.specs.Types.{columns_of}
use Rattle.plan_verdict.specs.declared.rule.Rule.{Rule}
use Rattle.plan_verdict.specs.declared.rule.Rule.TheVariants as rules
use Rattle.plan_verdict.specs.Sets.{first_and_others, set_op, set_columns_in}

-- the operation of a number, and its columns over these inputs
abbrev pub op_and_columns : List Rel → ℕ → Result (SetOp × List Ty) Rule
op_and_columns rels code = do
  (first, others) ← ok_or (first_and_others (map columns_of rels)) rules.UnsupportedForm
  op ← ok_or (set_op code) rules.UnsupportedForm
  direct ← set_columns_in op first others
  Ok (op, direct)
