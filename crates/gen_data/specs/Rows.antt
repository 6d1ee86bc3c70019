-- The rows of the demo's tables.
use Rattle.std.specs.Prelude.{ℕ, suc, pos, ◌*◌, ◌%◌, ◌==◌, List, [], ◌∷◌, ◌++◌, map, codes, decimal, if◌then◌else◌}
use Rattle.std.specs.List.{range_with_len}
use Rattle.sub_types.specs.declared.value.Value.{Value}
use Rattle.sub_types.specs.declared.value.Value.TheVariants as values

-- the most orders
abbrev pub MAX_NUMBER : ℕ
MAX_NUMBER = 200000

-- the region of an order: one of `r0`, `r1` and `r2` in turn
abbrev pub region_of : ℕ → List ℕ
region_of order = codes "r" ++ decimal (order % 3)

-- an order: its number, and its region
abbrev pub order_row : ℕ → List Value
order_row order = values.Int (pos order) ∷ values.Bytes (region_of order) ∷ []

-- the quantity of a line: the last digit of its number; each eleventh line has none
abbrev pub quantity_of : ℕ → Value
quantity_of line = if line % 11 == 10 then values.Null else values.Int (pos (line % 10))

-- the order of a line; one of them isn't there
abbrev pub order_of : ℕ → ℕ → ℕ
order_of number line = (7 * line) % suc number

-- a line: the number of its order, and its quantity
abbrev pub line_row : ℕ → ℕ → List Value
line_row number line = values.Int (pos (order_of number line)) ∷ quantity_of line ∷ []

-- so many orders
unfoldable pub order_rows : ℕ → List (List Value)
order_rows number = map order_row (range_with_len 0 number)

-- four lines for each order
unfoldable pub line_rows : ℕ → List (List Value)
line_rows number = map (line_row number) (range_with_len 0 (4 * number))
