use Rattle.std.proofs.Common.{◌≡◌, IsUtf8, chars, length}
use Rattle.text_match.specs.Segments as segments
use Rattle.text_match.proofs.pattern.after_wildcards.Given as goal

abbrev pub invariant-loop-rest : goal.invariant-loop-rest
invariant-loop-rest l = IsUtf8 l.start × (segments.after_leftmost (chars l.segment) (chars l.start) ≡ segments.after_leftmost (chars l.segment) (chars l.text))

abbrev pub decreases-loop-rest : goal.decreases-loop-rest
decreases-loop-rest l = length l.start
