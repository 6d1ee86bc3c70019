-- Each loop: what is left gives what the whole list gives.
use Rattle.std.proofs.Common.{◌≡◌, drop, true}
use Rattle.eval_row.specs.Lists.{worth, arms_at, choices_at}
use Rattle.eval_row.proofs.StepLaws.{prefixed}
use Rattle.eval_row.proofs.TruthLaws.{walked}
use Rattle.plan_denote.specs.Computed.{Computed, collect}
use Rattle.plan_denote.specs.Logic.{coalesce, ends_at, first_equal, first_true}
use Rattle.eval_row.specs.Lists.{compared_to}
use Rattle.eval_row.proofs.eval.+eval.Given as goal

abbrev pub invariant-first_truth-loop-arg : goal.invariant-first_truth-loop-arg
invariant-first_truth-loop-arg g l =
    walked l.end l.seen_null (worth (drop l.arg-index l.args) (g.R.RowValues.as_row l.row)) ≡ ends_at l.end (worth l.args (g.R.RowValues.as_row l.row))

abbrev pub invariant-first_value-loop-arg : goal.invariant-first_value-loop-arg
invariant-first_value-loop-arg g l = coalesce (worth (drop l.arg-index l.args) (g.R.RowValues.as_row l.row)) ≡ coalesce (worth l.args (g.R.RowValues.as_row l.row))

abbrev pub invariant-is_one_of-loop-option : goal.invariant-is_one_of-loop-option
invariant-is_one_of-loop-option g l =
    walked true l.seen_null (compared_to l.value (worth (drop l.option-index l.options) (g.R.RowValues.as_row l.row))) ≡ ends_at true (compared_to l.value (worth l.options (g.R.RowValues.as_row l.row)))

abbrev pub invariant-value_of_equal-loop-arm : goal.invariant-value_of_equal-loop-arm
invariant-value_of_equal-loop-arm g l =
    (other : Computed) → first_equal l.subject (choices_at (drop l.arm-index l.arms) (g.R.RowValues.as_row l.row)) other ≡ first_equal l.subject (choices_at l.arms (g.R.RowValues.as_row l.row)) other

abbrev pub invariant-value_of_true-loop-arm : goal.invariant-value_of_true-loop-arm
invariant-value_of_true-loop-arm g l =
    (other : Computed) → first_true (arms_at (drop l.arm-index l.arms) (g.R.RowValues.as_row l.row)) other ≡ first_true (arms_at l.arms (g.R.RowValues.as_row l.row)) other

abbrev pub invariant-values_at-loop-arg : goal.invariant-values_at-loop-arg
invariant-values_at-loop-arg g l =
    prefixed l.values.items (collect (worth (drop l.arg-index l.args) (g.R.RowValues.as_row l.row))) ≡ collect (worth l.args (g.R.RowValues.as_row l.row))
