use Rattle.std.proofs.Common.{◌≡◌, map, take}
use Rattle.group_states.specs.States.{kept_in, kept_before}
use Rattle.group_states.proofs.columns.columns_before.Given as goal

-- the columns so far
abbrev pub invariant-loop-keeping : goal.invariant-loop-keeping
invariant-loop-keeping l = map kept_in l.columns.items ≡ map (kept_before l.is_grouped) (take l.keeping-index l.keepings)
