-- Set operations (Substrait `SetRel`), by numbers of occurrences; null equals null.
use Rattle.std.specs.Prelude.{ℕ, ◌-◌, List, [], ◌∷◌, Bool, not, Option, None, map, length, min, take, nat_lt, slice_index_or}
use Rattle.std.specs.List.{filter, list_any, list_all, flat_map, range_with_len, sum_by}
use Rattle.std.specs.Option.{option_or}
use Rattle.sub_types.specs.declared.fault.Fault.{Fault}
use Rattle.sub_types.specs.Stream.{Stream, rows_alone, glue}
use Rattle.plan_typed.specs.declared.rel.SetOp.{SetOp}
use Rattle.plan_typed.specs.declared.rel.SetOp.TheVariants as ops
use Rattle.plan_denote.specs.Rows.{Row, unless_fault}
use Rattle.plan_denote.specs.Distinct.{is_same_row, distinct, is_in, occurrences}

-- the row at a place
abbrev pub row_at : List Row → ℕ → Row
row_at rows place = slice_index_or rows place []

-- whether the row at a place is one of the first so many occurrences
abbrev pub is_among : (Row → ℕ) → List Row → ℕ → Bool
is_among many rows place = nat_lt (occurrences (take place rows) (row_at rows place)) (many (row_at rows place))

-- the first so many occurrences of each row
abbrev pub first_so_many : (Row → ℕ) → List Row → List Row
first_so_many many rows = map (row_at rows) (filter (is_among many rows) (range_with_len 0 (length rows)))

-- how often a row occurs in these inputs together
abbrev pub occurrences_in : List (List Row) → Row → ℕ
occurrences_in inputs row = sum_by (λ rows. occurrences rows row) inputs

-- the least of a number and of how often a row occurs in each of these inputs
abbrev pub fewest : ℕ → List (List Row) → Row → ℕ
fewest many [] row = many
fewest many (rows ∷ inputs) row = min (occurrences rows row) (fewest many inputs row)

-- the rows of an operation over the first input and the others. (UNION_ALL is here for completeness: `set_rows` glues its inputs.)
abbrev pub set_of : SetOp → List Row → List (List Row) → List Row
set_of ops.MinusPrimary first others = filter (λ row. not (list_any (λ rows. is_in rows row) others)) (distinct is_same_row first)
set_of ops.MinusPrimaryAll first others = first_so_many (λ row. occurrences first row - occurrences_in others row) first
set_of ops.IntersectionPrimary first others = filter (λ row. list_any (λ rows. is_in rows row) others) (distinct is_same_row first)
set_of ops.IntersectionMultiset first others = filter (λ row. list_all (λ rows. is_in rows row) others) (distinct is_same_row first)
set_of ops.IntersectionMultisetAll first others = first_so_many (λ row. fewest (occurrences first row) others row) first
set_of ops.UnionDistinct first others = distinct is_same_row (flat_map (λ rows. rows) (first ∷ others))
set_of ops.UnionAll first others = flat_map (λ rows. rows) (first ∷ others)

-- the fault of the first input that ends in one
abbrev pub first_fault : List (Stream Row) → Option Fault
first_fault [] = None
first_fault (input ∷ inputs) = option_or input.end (first_fault inputs)

-- the rows of whole inputs
abbrev pub set_in : SetOp → List (List Row) → List Row
set_in op [] = []
set_in op (first ∷ others) = set_of op first others

-- UNION_ALL gives its inputs one after the other; the other operations need all of them first
unfoldable pub set_rows : SetOp → List (Stream Row) → Stream Row
set_rows ops.UnionAll inputs = glue inputs
set_rows op inputs = unless_fault (first_fault inputs) (rows_alone (set_in op (map (λ input. input.rows) inputs)))
