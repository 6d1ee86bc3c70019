use Rattle.std.proofs.Common.{ℕ, ◌<◌, FitsSigned, get_or, pos}
use Rattle.std.specs.Int.{w128}
use Rattle.col_fixed.proofs.native.i128_fit.Given as goal

abbrev pub invariant-loop-x : goal.invariant-loop-x
invariant-loop-x l = (i : ℕ) → i < l.x-index → FitsSigned w128 (get_or l.all i (pos 0))
