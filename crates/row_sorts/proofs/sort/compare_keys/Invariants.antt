use Rattle.std.proofs.Common.{◌≡◌, drop, map}
use Rattle.plan_denote.specs.Denote.{direction_of}
use Rattle.plan_denote.specs.Sort.{key_cmp}
use Rattle.row_sorts.proofs.sort.compare_keys.Given as goal

-- the keys that are left decide as all do
abbrev pub invariant-loop-place : goal.invariant-loop-place
invariant-loop-place l = key_cmp (map direction_of (drop l.place l.keys)) (drop l.place l.a) (drop l.place l.b) ≡ key_cmp (map direction_of l.fn.keys) l.fn.a l.fn.b
