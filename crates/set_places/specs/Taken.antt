-- Which rows of its first input a set operation takes, by how often a row is in each input. Rows are numbered from 0, input after
-- input.
use Rattle.std.specs.Prelude.{◌≡◌, ◌≤◌, ℕ, ◌+◌, ◌-◌, List, [], ◌∷◌, Bool, length, min, nat_lt}
use Rattle.std.specs.List.{filter, range_with_len, sum}
use Rattle.plan_typed.specs.declared.rel.SetOp.{SetOp}
use Rattle.plan_typed.specs.declared.rel.SetOp.TheVariants as ops
use Rattle.plan_denote.specs.Rows.{Row}
use Rattle.plan_denote.specs.Distinct.{is_same_row}
use Rattle.plan_denote.specs.Sets.{row_at}

-- how many of the rows from one to before another pass a test
abbrev pub times : (ℕ → Bool) → ℕ → ℕ → ℕ
times test from to = length (filter test (range_with_len from (to - from)))

-- how many of each of the inputs behind a row, by where each ends
abbrev pub times_each : (ℕ → Bool) → ℕ → List ℕ → List ℕ
times_each test from [] = []
times_each test from (end ∷ ends) = times test from end ∷ times_each test end ends

-- where each of the inputs behind a row ends; the last one ends with all rows
abbrev pub AreEnds : ℕ → List ℕ → ℕ → Type 0
AreEnds from [] count = from ≡ count
AreEnds from (end ∷ ends) count = (from ≤ end) × AreEnds end ends count

abbrev pub ends_from : ℕ → List (List Row) → List ℕ
ends_from from [] = []
ends_from from (rows ∷ inputs) = (from + length rows) ∷ ends_from (from + length rows) inputs

abbrev pub least : ℕ → List ℕ → ℕ
least many [] = many
least many (n ∷ others) = least (min many n) others

-- how many of the rows that are alike are taken, where so many are in the first input and in each other
abbrev pub allowed : SetOp → ℕ → List ℕ → ℕ
allowed ops.MinusPrimary many others = 1 - sum others
allowed ops.MinusPrimaryAll many others = many - sum others
allowed ops.IntersectionPrimary many others = min (sum others) 1
allowed ops.IntersectionMultiset many others = least 1 others
allowed ops.IntersectionMultisetAll many others = least many others
allowed ops.UnionDistinct many others = 1
allowed ops.UnionAll many others = many

-- a row is taken where fewer rows like it stand before it than are to be taken
abbrev pub takes : (ℕ → ℕ → Bool) → SetOp → ℕ → List ℕ → ℕ → Bool
takes same op first others row = nat_lt (times (same row) 0 row) (allowed op (times (same row) 0 first) (times_each (same row) first others))

-- whether the rows at two places are the same
abbrev pub same_in : List Row → ℕ → ℕ → Bool
same_in rows place other = is_same_row (row_at rows place) (row_at rows other)
