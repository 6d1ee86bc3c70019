-- The rows of the groups of several sets.
use Rattle.std.specs.Prelude.{◌≡◌, ◌≤◌, ℕ, suc, List, [], ◌∷◌, ◌++◌, Result, Ok, map, length, slice_index_or}
use Rattle.std.specs.List.{All}
use Rattle.sub_types.specs.declared.fault.FaultKind.{FaultKind}
use Rattle.sub_types.specs.Stream.{Stream}
use Rattle.plan_typed.specs.declared.rel.SetMeasure.{SetMeasure}
use Rattle.plan_denote.specs.Rows.{Row, ◌>>=◌}
use Rattle.plan_denote.specs.Tally.{Tally, not_null, tally_of}
use Rattle.plan_denote.specs.Aggregate.{MAX_INPUT, Entry, members_in}
use Rattle.plan_denote.specs.GroupSets.{once}
use Rattle.group_tallies.specs.declared.tallies.Tallies.{Tallies}
use Rattle.group_tallies.specs.Kept.{kept, tallies_in, keeping_in}
use Rattle.group_columns.specs.Columns.{count_in}
use Rattle.group_states.specs.States.{Kept}
use Rattle.aggregate.specs.Finals.{finals_at}
use Rattle.set_states.specs.States.{keeping, measure_in}
use Rattle.set_rows.specs.declared.rows.Rows.{Rows}

-- what is kept of the values of a key that a measure is over: all, or each once
abbrev pub kept_by : SetMeasure → List Entry → ℕ → Row → Tally
kept_by measure entries place key = kept (keeping measure) (tally_of (not_null (once measure.distinct (members_in entries key place))))

-- the same for measures, from the one at a place on
abbrev pub columns_final : ℕ → List SetMeasure → List Entry → List Row → List Kept
columns_final place [] entries keys = []
columns_final place (measure ∷ measures) entries keys = record { keeping = keeping measure; tallies = map (kept_by measure entries place) keys } ∷ columns_final (suc place) measures entries keys

-- columns with something for each of so many groups, of no more rows than may be
pub record AreSized (measures : List SetMeasure) (groups : ℕ) (columns : List Tallies) : Type 0 where
  pub kinds : map keeping_in columns ≡ map keeping measures
  pub sized : All (λ tallies. length (tallies_in tallies) ≡ groups) columns
  pub few : All (λ tallies. count_in (tallies_in tallies) ≤ MAX_INPUT) columns

-- the row of a group, which ends with the number of its set, if there is one
abbrev pub row_at : List SetMeasure → List Row → List Tallies → Row → ℕ → Result Row FaultKind
row_at measures keys columns numbered group = do
  found ← finals_at group (map measure_in measures) columns
  Ok (slice_index_or keys group [] ++ found ++ numbered)

-- rows in memory, as a stream
abbrev pub seen : Rows → Stream Row
seen out = record { rows = out.rows.items; end = out.end }
