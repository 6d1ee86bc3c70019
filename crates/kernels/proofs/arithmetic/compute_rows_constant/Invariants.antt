use Rattle.std.proofs.Common.{get_or, map, length, None, Some, option_map}
use Rattle.kernels.specs.Arith.{row}
use Rattle.kernels.proofs.UntilLaws.{IsSoFar}
use Rattle.kernels.proofs.arithmetic.compute_rows_constant.Given as goal

abbrev pub invariant-loop-i : goal.invariant-loop-i
invariant-loop-i g l = IsSoFar (λ i. row l.op l.mode g.T.Native.width (g.T.Native.number l.range.0) (g.T.Native.number l.range.1) (option_map g.T.Native.number (get_or l.a i None)) (Some (g.T.Native.number l.fn.constant))) (length l.a) l.i (map (option_map g.T.Native.number) l.column)
