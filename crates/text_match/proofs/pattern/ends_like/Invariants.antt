use Rattle.std.proofs.Common.{◌≡◌, IsUtf8, chars, length}
use Rattle.plan_denote.specs.Texts.{some_end, is_like}
use Rattle.text_match.proofs.pattern.ends_like.Given as goal

abbrev pub invariant-loop-segment : goal.invariant-loop-segment
invariant-loop-segment l = IsUtf8 l.rest × IsUtf8 l.signs × (some_end (is_like (chars l.signs)) (chars l.rest) ≡ some_end (is_like (chars l.pattern)) (chars l.text))

abbrev pub decreases-loop-segment : goal.decreases-loop-segment
decreases-loop-segment l = length l.signs
