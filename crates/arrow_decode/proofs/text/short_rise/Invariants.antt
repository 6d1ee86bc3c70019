use Rattle.std.proofs.Common.{◌≡◌, ◌-◌, ◌&&◌, not, drop, get_or}
use Rattle.arrow_decode.specs.Offsets.{rises}
use Rattle.arrow_decode.proofs.text.short_rise.Given as goal

-- what is left tells whether they rise
abbrev pub invariant-loop-i : goal.invariant-loop-i
invariant-loop-i l = rises 0 l.ends l.most ≡ (not l.is_falling && rises (get_or l.ends (l.i - 1) 0) (drop l.i l.ends) l.most)
