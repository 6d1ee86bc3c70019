-- Which places of the first input a set operation takes.
use Rattle.std.specs.Prelude.{ℕ, ◌-◌, List, Bool, true, not, ◌&&◌, ◌==◌, take, nat_lt}
use Rattle.std.specs.List.{list_any, list_all}
use Rattle.plan_typed.specs.declared.rel.SetOp.{SetOp}
use Rattle.plan_typed.specs.declared.rel.SetOp.TheVariants as ops
use Rattle.plan_denote.specs.Rows.{Row}
use Rattle.plan_denote.specs.Distinct.{is_in, occurrences}
use Rattle.plan_denote.specs.Sets.{row_at, occurrences_in, fewest}

-- how often the row at a place stands before it
abbrev pub before : List Row → ℕ → ℕ
before first place = occurrences (take place first) (row_at first place)

abbrev pub takes_row : SetOp → List Row → List (List Row) → Row → ℕ → Bool
takes_row ops.MinusPrimary first others row so_far = so_far == 0 && not (list_any (λ rows. is_in rows row) others)
takes_row ops.MinusPrimaryAll first others row so_far = nat_lt so_far (occurrences first row - occurrences_in others row)
takes_row ops.IntersectionPrimary first others row so_far = so_far == 0 && list_any (λ rows. is_in rows row) others
takes_row ops.IntersectionMultiset first others row so_far = so_far == 0 && list_all (λ rows. is_in rows row) others
takes_row ops.IntersectionMultisetAll first others row so_far = nat_lt so_far (fewest (occurrences first row) others row)
takes_row ops.UnionDistinct first others row so_far = so_far == 0
takes_row ops.UnionAll first others row so_far = true

-- whether the row at a place of the first input is taken
abbrev pub takes : SetOp → List Row → List (List Row) → ℕ → Bool
takes op first others place = takes_row op first others (row_at first place) (before first place)
