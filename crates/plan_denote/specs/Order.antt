-- The order of values: false below true, whole numbers and decimals by size, texts and binaries by bytes. Null comes first (a
-- sort places nulls by its direction before it asks this order), and values of different kinds, which no comparison is given, in the order of their kinds.
use Rattle.std.specs.Prelude.{ℕ, ℤ, pos, List, [], Bool, false}
use Rattle.std.specs.Cmp.Lexicographic.{slice_cmp}
use Rattle.std.specs.declared.cmp.Ordering.{Ordering}
use Rattle.std.specs.Ordering.{is_eq, nat_cmp, int_cmp, bool_cmp, then_cmp, on}
use Rattle.sub_types.specs.declared.value.Value.{Value}
use Rattle.sub_types.specs.declared.value.Value.TheVariants as values

-- the place of a value's kind
abbrev pub kind_place : Value → ℕ
kind_place values.Null = 0
kind_place (values.Bool _) = 1
kind_place (values.Int _) = 2
kind_place (values.Dec _) = 3
kind_place (values.Bytes _) = 4

-- the truth value, the number and the bytes in a value, and false, 0 or no bytes where it has none
abbrev pub truth_in : Value → Bool
truth_in (values.Bool test) = test
truth_in _ = false

abbrev pub number_in : Value → ℤ
number_in (values.Int number) = number
number_in (values.Dec number) = number
number_in _ = pos 0

abbrev pub bytes_in : Value → List ℕ
bytes_in (values.Bytes bytes) = bytes
bytes_in _ = []

abbrev pub value_cmp : Value → Value → Ordering
value_cmp = then_cmp (on kind_place nat_cmp) (then_cmp (on truth_in bool_cmp) (then_cmp (on number_in int_cmp) (on bytes_in (slice_cmp nat_cmp))))

-- equal, where null equals null
abbrev pub is_same : Value → Value → Bool
is_same a b = is_eq (value_cmp a b)
