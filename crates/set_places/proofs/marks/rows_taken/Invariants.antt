use Rattle.std.proofs.Common.{◌≡◌, get_or}
use Rattle.hash_chains.specs.First.{rows_where}
use Rattle.set_places.specs.declared.marks.Mark.TheVariants.{Open}
use Rattle.set_places.specs.Marks.{is_taken}
use Rattle.set_places.proofs.marks.rows_taken.Given as goal

-- the rows so far
abbrev pub invariant-loop-row : goal.invariant-loop-row
invariant-loop-row l = l.rows.items ≡ rows_where (λ row. is_taken (get_or l.fn.marks row Open)) l.row
