use Rattle.row_sorts.proofs.SameLaws.{of_other_lengths}
use Rattle.row_sorts.proofs.distinct.is_same_row.Goals as goal

pub returns-then-a-b : goal.returns-then-a-b
returns-then-a-b c = of_other_lengths c.args.a.now c.args.b.now c.if-a-b.true
