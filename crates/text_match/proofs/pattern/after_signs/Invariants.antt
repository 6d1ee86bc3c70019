use Rattle.std.proofs.Common.{◌≡◌, drop}
use Rattle.text_match.specs.Segments as segments
use Rattle.text_match.proofs.pattern.after_signs.Given as goal

abbrev pub invariant-loop-sign : goal.invariant-loop-sign
invariant-loop-sign l = segments.after_signs (drop l.sign-index l.signs) l.rest ≡ segments.after_signs l.signs l.text
