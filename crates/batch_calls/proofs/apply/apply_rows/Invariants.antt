-- The results so far, and what is left.
use Rattle.std.proofs.Common.{◌≡◌, ℕ, map}
use Rattle.sub_types.specs.Rows.{across}
use Rattle.sub_types.specs.declared.value.Value.TheVariants.{Null}
use Rattle.plan_denote.specs.Calls.{applied}
use Rattle.batch_nodes.specs.Found.{found_values}
use Rattle.kernels.proofs.UntilLaws.{IsSoFar}
use Rattle.batch_calls.proofs.apply.apply_rows.Given as goal

abbrev pub invariant-loop-i : goal.invariant-loop-i
invariant-loop-i l = (l.built.ty ≡ l.fn.ty) × IsSoFar (λ (i : ℕ). applied l.fn.func l.fn.ty.kind l.fn.mode l.fn.given (across Null (map found_values l.fn.columns) i)) l.fn.n l.i l.built.values
