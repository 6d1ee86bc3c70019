-- Rows with their keys, by the keys.
use Rattle.std.specs.Prelude.{List}
use Rattle.std.specs.declared.cmp.Ordering.{Ordering}
use Rattle.std.specs.Ordering.{on}
use Rattle.plan_denote.specs.Sort.{Direction, Keyed, key_cmp}

abbrev pub by_key : List Direction → Keyed → Keyed → Ordering
by_key directions = on (λ (one : Keyed). one.0) (key_cmp directions)
