use Rattle.std.proofs.Common.{◌≡◌, ◌+◌, List, length, map, drop}
use Rattle.std.specs.List.{enumerate_from}
use Rattle.std.specs.Vec.Iter.{into_iter_items}
use Rattle.sub_types.specs.Stream.{followed_by, glue}
use Rattle.plan_denote.specs.Aggregate.{Entry}
use Rattle.plan_denote.specs.Denote.{any_measure}
use Rattle.set_states.specs.States.{AreKnown}
use Rattle.set_rows.proofs.RowLaws.{rows_at, so_far}
use Rattle.set_rows.proofs.rows.sets_rows.Given as goal

-- the sets so far, and those that are left
abbrev pub invariant-loop-one : goal.invariant-loop-one
invariant-loop-one l = record {
  left : into_iter_items l.one-iterator ≡ drop l.place l.fn.sets.sets.items;
  all : length (into_iter_items l.one-iterator) + l.place ≡ length l.fn.sets.sets.items;
  rows : (entries : List Entry) → AreKnown l.fn.width l.measures (map (λ set. set.items) l.places) entries l.fn.sets
      → glue (map (rows_at l.fn.relation l.fn.width (map (λ set. set.items) l.places) (map any_measure l.measures) entries) (enumerate_from 0 (map (λ set. set.items) l.places)))
      ≡ followed_by (so_far l.rows.items) (glue (map (rows_at l.fn.relation l.fn.width (map (λ set. set.items) l.places) (map any_measure l.measures) entries) (enumerate_from l.place (drop l.place (map (λ set. set.items) l.places)))));
}
