use Rattle.std.proofs.Common.{ℕ, ◌<◌, FitsSigned, get_or, pos}
use Rattle.std.specs.Int.{w32}
use Rattle.col_fixed.proofs.native.i32_fit.Given as goal

abbrev pub invariant-loop-x : goal.invariant-loop-x
invariant-loop-x l = (i : ℕ) → i < l.x-index → FitsSigned w32 (get_or l.all i (pos 0))
