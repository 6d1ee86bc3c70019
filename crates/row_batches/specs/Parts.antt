-- Rows in parts, and what stands at a place of each row.
use Rattle.std.specs.Prelude.{ℕ, ◌+◌, ◌/◌, ◌<◌, List, map, length, slice_index_or}
use Rattle.std.specs.Fork.{slice_chunk}
use Rattle.std.specs.List.{range_with_len}
use Rattle.sub_types.specs.Value.{InKind}
use Rattle.sub_types.specs.declared.kind.Kind.{Kind}
use Rattle.sub_types.specs.declared.value.Value.{Value}
use Rattle.sub_types.specs.declared.value.Value.TheVariants as values

abbrev pub PART_ROWS : ℕ
PART_ROWS = 1024

-- 1,024 rows each, the last part shorter, none for no rows
unfoldable pub in_parts : List (List Value) → List (List (List Value))
in_parts rows = map (slice_chunk rows PART_ROWS) (range_with_len 0 ((length rows + 1023) / PART_ROWS))

-- the value at a place of a row
abbrev pub value_in : ℕ → List Value → Value
value_in place row = slice_index_or row place values.Null

-- a row has a value of this kind, or null, at this place
abbrev pub HoldsAt : ℕ → Kind → List Value → Type 0
HoldsAt place kind row = (place < length row) × InKind kind (value_in place row)
