use Rattle.std.proofs.Common.{drop}
use Rattle.col_text.specs.Text.{NullsAreEmpty}
use Rattle.arrow_decode.proofs.text.nulls_are_empty.Given as goal

-- no null so far has bytes
abbrev pub invariant-loop-i : goal.invariant-loop-i
invariant-loop-i l = NullsAreEmpty l.start (drop l.i l.ends) (drop l.i l.valid) → NullsAreEmpty 0 l.ends l.valid
