-- The prefix of a row's key: a number of 64 bits that orders rows as far as it tells them apart. Of it a number of 32 bits is kept,
-- which does so too.
use Rattle.std.specs.Prelude.{ℕ, ◌+◌, ◌-◌, ◌*◌, ◌/◌, ◌%◌, ◌^◌, ℤ, pos, negsuc, List, [], ◌∷◌, Bool, true, false, map, min, if◌then◌else◌}
use Rattle.std.specs.declared.cmp.Ordering.{Ordering}
use Rattle.std.specs.Ordering.{nat_cmp, on, then_cmp}
use Rattle.sub_types.specs.declared.value.Value.{Value}
use Rattle.sub_types.specs.declared.value.Value.TheVariants as values
use Rattle.batch.specs.declared.batch.Batch.{Batch}
use Rattle.plan_denote.specs.Computed.{is_null}
use Rattle.plan_denote.specs.Rows.{Row}
use Rattle.plan_denote.specs.Sort.{Direction, first_key}
use Rattle.rel_specs.specs.declared.key_order.KeyOrder.{KeyOrder}
use Rattle.row_keys.specs.Keys.{sort_key_of, direction_of}
use Rattle.sort_merge.specs.RowOrder.{place_cmp}
use Rattle.sort_merge.specs.declared.scale.Scale.{Scale}

-- the greatest prefix
abbrev pub most : ℕ
most = 2 ^ 64 - 1

-- a whole number, counted from -2^63
abbrev pub int_prefix : ℤ → ℕ
int_prefix (pos n) = min (2 ^ 63 + n) most
int_prefix (negsuc n) = 2 ^ 63 - (n + 1)

-- whole numbers are told apart, truth values aren't, and neither are decimals, texts and binaries
abbrev pub value_prefix : Value → ℕ
value_prefix values.Null = 0
value_prefix (values.Bool _) = 0
value_prefix (values.Int n) = int_prefix n
value_prefix (values.Dec _) = most
value_prefix (values.Bytes _) = most

-- of null, first or last, and of other values, which ascend or descend
abbrev pub null_prefix : Bool → ℕ
null_prefix true = 0
null_prefix false = most

abbrev pub sized_prefix : Bool → ℕ → ℕ
sized_prefix true prefix = most - prefix
sized_prefix false prefix = prefix

abbrev pub prefix_in : Direction → Value → ℕ
prefix_in direction value = if is_null value then null_prefix direction.nulls_first else sized_prefix direction.descending (value_prefix value)

-- the prefix of a key is that of its first value
abbrev pub key_prefix : List Direction → List Value → ℕ
key_prefix [] key = 0
key_prefix (direction ∷ directions) key = prefix_in direction (first_key key)

-- by how far a prefix is above the least, in steps of a power of two; prefixes far above are alike
abbrev pub shortened : Scale → ℕ → ℕ
shortened scale prefix = min ((prefix - scale.least) / 2 ^ scale.shift) (2 ^ 32 - 1)

-- a row's shortened prefix and its place, in one number
abbrev pub packed : ℕ → ℕ → ℕ
packed prefix row = prefix * 2 ^ 32 + row

abbrev pub prefix_of : ℕ → ℕ
prefix_of one = one / 2 ^ 32

abbrev pub row_of : ℕ → ℕ
row_of one = one % 2 ^ 32

-- a row of a batch with its prefix
abbrev pub prefixed_at : Scale → List KeyOrder → Batch → ℕ → ℕ
prefixed_at scale keys batch row = packed (shortened scale (key_prefix (map direction_of keys) (sort_key_of keys batch row))) row

-- two rows by their prefixes, and where these are equal by the rows
abbrev pub prefixed_cmp : List KeyOrder → (ℕ → Bool) → (ℕ → Row) → ℕ → ℕ → Ordering
prefixed_cmp keys is_there row_at = then_cmp (on prefix_of nat_cmp) (on row_of (place_cmp keys is_there row_at))
