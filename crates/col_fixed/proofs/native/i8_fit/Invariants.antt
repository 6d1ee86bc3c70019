use Rattle.std.proofs.Common.{ℕ, ◌<◌, FitsSigned, get_or, pos}
use Rattle.std.specs.Int.{w8}
use Rattle.col_fixed.proofs.native.i8_fit.Given as goal

abbrev pub invariant-loop-x : goal.invariant-loop-x
invariant-loop-x l = (i : ℕ) → i < l.x-index → FitsSigned w8 (get_or l.all i (pos 0))
