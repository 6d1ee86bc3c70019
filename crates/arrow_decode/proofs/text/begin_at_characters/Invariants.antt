use Rattle.std.proofs.Common.{ℕ, ◌<◌, []}
use Rattle.std.specs.List.{concat}
use Rattle.std.specs.Str.{IsCharBoundary}
use Rattle.sub_types.specs.Slots.{slots}
use Rattle.col_text.specs.Text.{offset_of}
use Rattle.arrow_decode.proofs.text.begin_at_characters.Given as goal

abbrev pub invariant-loop-i : goal.invariant-loop-i
invariant-loop-i l = (k : ℕ) → k < l.i → IsCharBoundary (concat (slots [] l.column)) (offset_of (slots [] l.column) k)
