-- A filter by what is always true.
use Rattle.std.proofs.Common.{◌≡◌, ◌∙◌, ℕ, List, [], ◌∷◌, Option, None, map, refl, ap}
use Rattle.std.proofs.lemmas.List.{append-nil}
use Rattle.sub_types.specs.declared.fault.Fault.{Fault}
use Rattle.sub_types.specs.Stream.{Stream, rows_alone, ended, followed_by, glue, stream_of}
use Rattle.plan_denote.specs.Rows.{Row, at_relation, condition_of}
use Rattle.plan_denote.specs.Filter.{filter_row, filtered}

all_kept : (number : ℕ) (rows : List Row) → glue (map (λ row. stream_of (at_relation number (filter_row (condition_of None) row))) rows) ≡ rows_alone rows
all_kept number [] = refl
all_kept number (row ∷ rows) = ap (followed_by (rows_alone (row ∷ []))) (all_kept number rows)

parts_kept : (number : ℕ) (rows : List Row) (end : Option Fault) → filtered number (condition_of None) (record { rows = rows; end = end }) ≡ record { rows = rows; end = end }
unfolding filtered
parts_kept number rows end = ap (λ s. followed_by s (ended end)) (all_kept number rows) ∙ ap (λ all. record { rows = all; end = end }) (append-nil rows)

pub kept : (number : ℕ) (s : Stream Row) → filtered number (condition_of None) s ≡ s
kept number s = parts_kept number s.rows s.end
