use Rattle.std.proofs.Common.{◌≡◌, drop, map}
use Rattle.plan_denote.specs.Sort.{key_cmp}
use Rattle.row_keys.specs.Keys.{sort_key_of, direction_of}
use Rattle.row_keys.proofs.order.compare_keys.Given as goal

-- the keys that are left decide as all do
abbrev pub invariant-loop-key : goal.invariant-loop-key
invariant-loop-key l = key_cmp (map direction_of (drop l.key-index l.keys)) (sort_key_of (drop l.key-index l.keys) l.a l.i) (sort_key_of (drop l.key-index l.keys) l.b l.j) ≡ key_cmp (map direction_of l.fn.keys) (sort_key_of l.fn.keys l.fn.a l.fn.i) (sort_key_of l.fn.keys l.fn.b l.fn.j)
