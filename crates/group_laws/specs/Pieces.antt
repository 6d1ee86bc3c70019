-- What is known of pieces of the input of an aggregate.
use Rattle.std.specs.Prelude.{ℕ, List, Result, map, length}
use Rattle.sub_types.specs.declared.fault.Fault.{Fault}
use Rattle.sub_types.specs.Stream.{Stream}
use Rattle.plan_denote.specs.Rows.{Row, Formula, each_row}
use Rattle.plan_denote.specs.Aggregate.{Measure, Entry, Summary, entry_of, summary}
use Rattle.plan_denote.specs.GroupSets.{AnyMeasure}
use Rattle.group_laws.specs.States.{state_of}
use Rattle.group_laws.specs.SetStates.{SetsSummary, sets_summary}

-- the keys of rows and what the measures take of them, up to the first fault
abbrev pub entries_in : ℕ → List Formula → List Measure → Stream Row → Stream Entry
entries_in number groups measures input = each_row number (entry_of groups measures) input

-- the summary of an input, or its first fault
abbrev pub known_of_input : ℕ → List Formula → List Measure → Stream Row → Result Summary Fault
known_of_input number groups measures input = state_of (summary groups measures) (entries_in number groups measures input)

-- the same for several sets of groups
abbrev pub sets_of_input : ℕ → List Formula → List (List ℕ) → List AnyMeasure → Stream Row → Result SetsSummary Fault
sets_of_input number groups sets measures input =
    state_of (sets_summary (length groups) sets measures) (entries_in number groups (map (λ one. one.measure) measures) input)
