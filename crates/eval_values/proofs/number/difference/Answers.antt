use Rattle.std.proofs.Common.{arith}
use Rattle.std.specs.Int.{w128}
use Rattle.std.proofs.lemmas.Int.{to_z-of_z}
use Rattle.eval_values.proofs.Exact.{number_along, longer_from, longer_taken}
use Rattle.eval_values.proofs.number.difference.Goals as goal

pub returns-then-a_by-b_by : goal.returns-then-a_by-b_by
returns-then-a_by-b_by c =
    number_along _ _ _
    (longer_taken c.args.a c.args.b _ _ c.args.a_by c.args.b_by (to_z-of_z w128 c.args.a c.ranges.a) (to_z-of_z w128 c.args.b c.ranges.b) (omega arith))
    (c.scaled_up.ensures _ (c.opposite.ensures _ c.shifted_difference.ensures))

pub returns-else-a_by-b_by : goal.returns-else-a_by-b_by
returns-else-a_by-b_by c =
    number_along _ _ _
    (longer_from c.args.a c.args.b _ _ c.args.a_by c.args.b_by (to_z-of_z w128 c.args.a c.ranges.a) (to_z-of_z w128 c.args.b c.ranges.b) (omega arith))
    (c.scaled_up-else-a_by-b_by.ensures _ c.shifted_difference-else-a_by-b_by.ensures)
