-- The results so far, and what is left.
use Rattle.std.proofs.Common.{◌≡◌, ℕ, length, get_or}
use Rattle.sub_types.specs.declared.value.Value.TheVariants.{Null}
use Rattle.plan_denote.specs.Casts.{cast, or_null}
use Rattle.batch_nodes.specs.Found.{found_values}
use Rattle.kernels.proofs.UntilLaws.{IsSoFar}
use Rattle.batch_calls.proofs.casts.cast_column.Given as goal

abbrev pub invariant-loop-i : goal.invariant-loop-i
invariant-loop-i l =
    (l.built.ty ≡ l.fn.ty)
    × IsSoFar (λ (i : ℕ). or_null l.fn.null_on_fail (cast l.fn.from l.fn.ty.kind (get_or (found_values l.column) i Null))) (length (found_values l.column)) l.i l.built.values
