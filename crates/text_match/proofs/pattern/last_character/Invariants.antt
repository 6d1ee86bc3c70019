use Rattle.std.proofs.Common.{◌≤◌, length}
use Rattle.memchr.specs.Find.{Nowhere, Passes}
use Rattle.text_match.specs.Segments.{begins_character}
use Rattle.text_match.proofs.pattern.last_character.Given as goal

abbrev pub invariant-loop-start : goal.invariant-loop-start
invariant-loop-start l = (l.start ≤ length l.text) × Nowhere (Passes begins_character l.text) l.start (length l.text)

abbrev pub decreases-loop-start : goal.decreases-loop-start
decreases-loop-start l = l.start
