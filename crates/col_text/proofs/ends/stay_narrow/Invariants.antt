use Rattle.std.proofs.Common.{◌≡◌, ◌&&◌, not, drop}
use Rattle.std.specs.List.{list_all}
use Rattle.col_text.specs.Text.{moves_below}
use Rattle.col_text.proofs.ends.stay_narrow.Given as goal

-- what is left tells whether all are
abbrev pub invariant-loop-end : goal.invariant-loop-end
invariant-loop-end l = list_all (moves_below l.shift) l.ends ≡ (not l.is_wide && list_all (moves_below l.shift) (drop l.end-index l.ends))
