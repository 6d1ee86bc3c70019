-- The value at a place where none may stand: null, or a value of the kind that is kept there.
use Rattle.std.specs.Prelude.{ℕ, ℤ, List, Bool, Option, Some, None}
use Rattle.sub_types.specs.declared.value.Value.{Value}
use Rattle.sub_types.specs.declared.value.Value.TheVariants as values

abbrev pub bool_value : Option Bool → Value
bool_value (Some b) = values.Bool b
bool_value None = values.Null

abbrev pub int_value : Option ℤ → Value
int_value (Some n) = values.Int n
int_value None = values.Null

abbrev pub dec_value : Option ℤ → Value
dec_value (Some n) = values.Dec n
dec_value None = values.Null

abbrev pub bytes_value : Option (List ℕ) → Value
bytes_value (Some bytes) = values.Bytes bytes
bytes_value None = values.Null
