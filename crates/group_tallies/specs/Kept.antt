-- What is kept of tallies: what a measure's function needs.
use Rattle.std.specs.Prelude.{ℕ, ◌<◌, ℤ, pos, List, [], ◌∷◌, map, length, ◌==◌, if◌then◌else◌, slice_index_or, slice_set}
use Rattle.sub_types.specs.declared.value.Value.{Value}
use Rattle.sub_types.specs.declared.value.Value.TheVariants as values
use Rattle.plan_typed.specs.declared.expr.Func.{Func}
use Rattle.plan_typed.specs.declared.expr.Func.TheVariants as funcs
use Rattle.plan_denote.specs.Tally.{Tally, not_null, tally_of}
use Rattle.group_laws.specs.Merged.{tallies_merged}
use Rattle.group_tallies.specs.declared.running.Running.{Running}
use Rattle.group_tallies.specs.declared.tallies.Keeping.{Keeping}
use Rattle.group_tallies.specs.declared.tallies.Keeping.TheVariants as keepings
use Rattle.group_tallies.specs.declared.tallies.Kept.{Kept}
use Rattle.group_tallies.specs.declared.tallies.Kept.TheVariants as kepts
use Rattle.group_tallies.specs.declared.tallies.Tallies.{Tallies}
use Rattle.group_tallies.specs.Totals.{number_of_parts}

abbrev pub counted : ℕ → Tally
counted count = record { count = count; total = pos 0; least = values.Null; greatest = values.Null }

abbrev pub summed : ℕ → ℤ → Tally
summed count total = record { count = count; total = total; least = values.Null; greatest = values.Null }

abbrev pub least_kept : Value → Tally
least_kept value = record { count = 0; total = pos 0; least = value; greatest = values.Null }

abbrev pub greatest_kept : Value → Tally
greatest_kept value = record { count = 0; total = pos 0; least = values.Null; greatest = value }

-- what a measure's function needs of a tally; the rest is as that of no values
abbrev pub keeping_of : Func → Keeping
keeping_of funcs.Sum = keepings.Total
keeping_of funcs.Avg = keepings.Total
keeping_of funcs.Min = keepings.Least
keeping_of funcs.Max = keepings.Greatest
keeping_of _ = keepings.Count

abbrev pub kept : Keeping → Tally → Tally
kept keepings.Count tally = counted tally.count
kept keepings.Total tally = summed tally.count tally.total
kept keepings.Least tally = least_kept tally.least
kept keepings.Greatest tally = greatest_kept tally.greatest

-- what memory keeps
abbrev pub totalled : Running → Tally
totalled running = summed running.count (number_of_parts running.high running.low)

abbrev pub in_memory : Kept → List Tally
in_memory (kepts.Counts counts) = map counted counts.items
in_memory (kepts.Totals totals) = map totalled totals.items
in_memory (kepts.Least bests) = map least_kept bests.items
in_memory (kepts.Greatest bests) = map greatest_kept bests.items

abbrev pub keeping_in_memory : Kept → Keeping
keeping_in_memory (kepts.Counts counts) = keepings.Count
keeping_in_memory (kepts.Totals totals) = keepings.Total
keeping_in_memory (kepts.Least bests) = keepings.Least
keeping_in_memory (kepts.Greatest bests) = keepings.Greatest

-- the tallies of groups, by their numbers from 0, and what is kept of them
abbrev pub tallies_in : Tallies → List Tally
tallies_in tallies = in_memory tallies.kept

abbrev pub keeping_in : Tallies → Keeping
keeping_in tallies = keeping_in_memory tallies.kept

-- the tally of a group by its number
abbrev pub none : Tally
none = counted 0

abbrev pub tally_at : List Tally → ℕ → Tally
tally_at tallies group = slice_index_or tallies group none

-- what is kept of further values goes to a group
abbrev pub with_tally : List Tally → ℕ → Tally → List Tally
with_tally tallies group later = slice_set tallies group (tallies_merged (tally_at tallies group) later)

-- what is kept of one value
abbrev pub kept_of : Keeping → Value → Tally
kept_of keeping value = kept keeping (tally_of (not_null (value ∷ [])))

-- values go to their groups one after the other, each with its group's number
abbrev pub with_values : Keeping → List Tally → List (ℕ × Value) → List Tally
with_values keeping tallies [] = tallies
with_values keeping tallies (one ∷ values) = with_values keeping (with_tally tallies one.0 (kept_of keeping one.1)) values

-- the values of a group
abbrev pub values_of : ℕ → List (ℕ × Value) → List Value
values_of group [] = []
values_of group (one ∷ values) = if one.0 == group then one.1 ∷ values_of group values else values_of group values

-- each value's group is there
abbrev pub AreThere : List Tally → List (ℕ × Value) → Type 0
AreThere tallies [] = Unit {0}
AreThere tallies (one ∷ values) = (one.0 < length tallies) × AreThere tallies values
