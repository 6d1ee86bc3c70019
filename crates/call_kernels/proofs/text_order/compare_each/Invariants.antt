-- The comparisons so far.
use Rattle.std.proofs.Common.{◌≡◌, map, take, Ok}
use Rattle.std.specs.Simd.Lanes.{zip2}
use Rattle.sub_types.specs.Nullable.{bool_value, bytes_value}
use Rattle.plan_denote.specs.Logic as logic
use Rattle.kernels.specs.Numbers.{test_of}
use Rattle.call_kernels.specs.Texts.{listed}
use Rattle.call_kernels.proofs.text_order.compare_each.Given as goal

abbrev pub invariant-loop-i : goal.invariant-loop-i
invariant-loop-i l = map (λ truth. Ok (bool_value truth)) l.column ≡ take l.i (zip2 (logic.compared (test_of l.op)) (map bytes_value (listed l.n l.a)) (map bytes_value (listed l.n l.b)))
