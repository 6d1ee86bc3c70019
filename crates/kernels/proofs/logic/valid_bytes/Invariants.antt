use Rattle.kernels.specs.Truths.{AreMade, valid_eight}
use Rattle.kernels.proofs.logic.valid_bytes.Given as goal

abbrev pub invariant-loop-i : goal.invariant-loop-i
invariant-loop-i l = AreMade (valid_eight l.connective) l.a l.a_valid l.b l.b_valid l.bytes.items l.i
