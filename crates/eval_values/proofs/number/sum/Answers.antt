use Rattle.std.proofs.Common.{arith}
use Rattle.std.specs.Int.{w128}
use Rattle.std.proofs.lemmas.Int.{to_z-of_z}
use Rattle.eval_values.proofs.Exact.{number_along, longer_first, longer_second}
use Rattle.eval_values.proofs.number.sum.Goals as goal

pub returns-then-a_by-b_by : goal.returns-then-a_by-b_by
returns-then-a_by-b_by c =
    number_along _ _ _
    (longer_second c.args.a c.args.b _ _ c.args.a_by c.args.b_by (to_z-of_z w128 c.args.a c.ranges.a) (to_z-of_z w128 c.args.b c.ranges.b) (omega arith))
    (c.scaled_up.ensures _ c.shifted_sum.ensures)

pub returns-else-a_by-b_by : goal.returns-else-a_by-b_by
returns-else-a_by-b_by c =
    number_along _ _ _
    (longer_first c.args.a c.args.b _ _ c.args.a_by c.args.b_by (to_z-of_z w128 c.args.a c.ranges.a) (to_z-of_z w128 c.args.b c.ranges.b) (omega arith))
    (c.scaled_up-else-a_by-b_by.ensures _ c.shifted_sum-else-a_by-b_by.ensures)
