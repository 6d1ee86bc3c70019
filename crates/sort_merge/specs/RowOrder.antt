-- Rows in order of some columns, and the order in which their places are put.
use Rattle.std.specs.Prelude.{List, Bool, map}
use Rattle.std.specs.declared.cmp.Ordering.{Ordering}
use Rattle.std.specs.Ordering.{bool_cmp, on, then_cmp}
use Rattle.plan_denote.specs.Rows.{Row}
use Rattle.plan_denote.specs.Sort.{key_cmp, sorted_rows}
use Rattle.plan_pipes.specs.RowMeaning.{keyed_by, direction_in}
use Rattle.rel_specs.specs.declared.key_order.KeyOrder.{KeyOrder}

-- the rows in order of these columns; of two with equal keys, the first stays the first
abbrev pub in_order : List KeyOrder → List Row → List Row
in_order keys rows = sorted_rows (map direction_in keys) (map (keyed_by keys) rows)

-- two rows by these columns
abbrev pub row_cmp : List KeyOrder → Row → Row → Ordering
row_cmp keys = on (λ row. (keyed_by keys row).0) (key_cmp (map direction_in keys))

-- two places by the rows there; a place where no row is comes before the others
abbrev pub place_cmp : {P : Type 0} → List KeyOrder → (P → Bool) → (P → Row) → P → P → Ordering
place_cmp keys is_there row_at = then_cmp (on is_there bool_cmp) (on row_at (row_cmp keys))
