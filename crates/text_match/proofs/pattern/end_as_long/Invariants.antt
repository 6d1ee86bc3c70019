use Rattle.std.proofs.Common.{◌≡◌, ◌+◌, ◌≤◌, IsUtf8, chars, length, take}
use Rattle.text_match.proofs.pattern.end_as_long.Given as goal

abbrev pub invariant-loop-later : goal.invariant-loop-later
invariant-loop-later l = (l.start ≤ length l.text) × IsUtf8 (take l.start l.text) × IsUtf8 l.signs × (length (chars (take l.start l.text)) + length (chars l.segment) ≡ length (chars l.text) + length (chars l.signs))

abbrev pub decreases-loop-later : goal.decreases-loop-later
decreases-loop-later l = length l.signs
