use Rattle.std.proofs.Common.{rules}
use Rattle.row_sorts.proofs.sets.rows_of.Goals as goal

pub returns : goal.returns
returns c = c.map_into.ensures (λ input. input.rows) (λ _ _ post. search rules)
