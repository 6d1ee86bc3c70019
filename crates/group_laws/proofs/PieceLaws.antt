-- Aggregates of an input in pieces.
use Rattle.std.proofs.Common.{◌≡◌, ◌∙◌, ℕ, List, [], map, length, sym, ap}
use Rattle.std.proofs.lemmas.Simd.{map-map}
use Rattle.sub_types.specs.Stream.{Stream, followed_by, glue}
use Rattle.sub_types.proofs.StreamLaws.{each-glue, each_stream-followed_by}
use Rattle.sub_types.specs.Stream.{stream_of}
use Rattle.plan_denote.specs.Rows.{Row, Formula, at_relation, unless_fault, from_all}
use Rattle.plan_denote.specs.Aggregate.{Measure, Entry, entry_of, summary, rows_of_summary, aggregated}
use Rattle.plan_denote.specs.GroupSets.{AnyMeasure, rows_of_sets, grouping_sets}
use Rattle.group_laws.specs.States.{state_of, states_merged, merged_in_order, rows_of_state}
use Rattle.group_laws.specs.Merged.{merged}
use Rattle.group_laws.specs.SetStates.{sets_summary, sets_merged, rows_of_sets_summary}
use Rattle.group_laws.specs.Pieces.{entries_in, known_of_input, sets_of_input}
use Rattle.group_laws.proofs.SummaryLaws.{summary-append}
use Rattle.group_laws.proofs.SetLaws.{sets_summary-append, rows_by_summary}
use Rattle.group_laws.proofs.StateLaws.{state_of-followed_by, state_of-glue, rows_by_state}

entries-glue : (number : ℕ) (groups : List Formula) (measures : List Measure) (pieces : List (Stream Row)) → entries_in number groups measures (glue pieces) ≡ glue (map (entries_in number groups measures) pieces)
entries-glue number groups measures pieces = each-glue (λ row. at_relation number (entry_of groups measures row)) pieces

entries-followed_by : (number : ℕ) (groups : List Formula) (measures : List Measure) (s rest : Stream Row) → entries_in number groups measures (followed_by s rest) ≡ followed_by (entries_in number groups measures s) (entries_in number groups measures rest)
entries-followed_by number groups measures s rest = each_stream-followed_by (λ row. stream_of (at_relation number (entry_of groups measures row))) s rest

pub known-followed_by : (number : ℕ) (groups : List Formula) (measures : List Measure) (input later : Stream Row)
    → known_of_input number groups measures (followed_by input later) ≡ states_merged merged (known_of_input number groups measures input) (known_of_input number groups measures later)
known-followed_by number groups measures input later =
    ap (state_of (summary groups measures)) (entries-followed_by number groups measures input later)
    ∙ state_of-followed_by (summary groups measures) merged (summary-append groups measures) (entries_in number groups measures input) (entries_in number groups measures later)

pub known-glue : (number : ℕ) (groups : List Formula) (measures : List Measure) (pieces : List (Stream Row))
    → merged_in_order merged (summary groups measures []) (map (known_of_input number groups measures) pieces) ≡ known_of_input number groups measures (glue pieces)
known-glue number groups measures pieces =
    ap (merged_in_order merged (summary groups measures [])) (sym (map-map (state_of (summary groups measures)) (entries_in number groups measures) pieces))
    ∙ state_of-glue (summary groups measures) merged (summary-append groups measures) (map (entries_in number groups measures) pieces)
    ∙ sym (ap (state_of (summary groups measures)) (entries-glue number groups measures pieces))

pub aggregated_is : (number : ℕ) (groups : List Formula) (measures : List Measure) (input : Stream Row) → aggregated number groups measures input ≡ rows_of_state (rows_of_summary number measures) (known_of_input number groups measures input)
unfolding aggregated
aggregated_is number groups measures input = rows_by_state (summary groups measures) (rows_of_summary number measures) (entries_in number groups measures input)

pub aggregated_of_pieces : (number : ℕ) (groups : List Formula) (measures : List Measure) (pieces : List (Stream Row))
    → aggregated number groups measures (glue pieces) ≡ rows_of_state (rows_of_summary number measures) (merged_in_order merged (summary groups measures []) (map (known_of_input number groups measures) pieces))
aggregated_of_pieces number groups measures pieces = aggregated_is number groups measures (glue pieces) ∙ sym (ap (rows_of_state (rows_of_summary number measures)) (known-glue number groups measures pieces))

-- several sets of groups
abbrev plain_measures : List AnyMeasure → List Measure
plain_measures measures = map (λ one. one.measure) measures

pub sets-followed_by : (number : ℕ) (groups : List Formula) (sets : List (List ℕ)) (measures : List AnyMeasure) (input later : Stream Row)
    → sets_of_input number groups sets measures (followed_by input later) ≡ states_merged sets_merged (sets_of_input number groups sets measures input) (sets_of_input number groups sets measures later)
sets-followed_by number groups sets measures input later =
    ap (state_of (sets_summary (length groups) sets measures)) (entries-followed_by number groups (plain_measures measures) input later)
    ∙ state_of-followed_by (sets_summary (length groups) sets measures) sets_merged (sets_summary-append (length groups) sets measures) (entries_in number groups (plain_measures measures) input) (entries_in number groups (plain_measures measures) later)

pub sets-glue : (number : ℕ) (groups : List Formula) (sets : List (List ℕ)) (measures : List AnyMeasure) (pieces : List (Stream Row))
    → merged_in_order sets_merged (sets_summary (length groups) sets measures []) (map (sets_of_input number groups sets measures) pieces) ≡ sets_of_input number groups sets measures (glue pieces)
sets-glue number groups sets measures pieces =
    ap (merged_in_order sets_merged (sets_summary (length groups) sets measures [])) (sym (map-map (state_of (sets_summary (length groups) sets measures)) (entries_in number groups (plain_measures measures)) pieces))
    ∙ state_of-glue (sets_summary (length groups) sets measures) sets_merged (sets_summary-append (length groups) sets measures) (map (entries_in number groups (plain_measures measures)) pieces)
    ∙ sym (ap (state_of (sets_summary (length groups) sets measures)) (entries-glue number groups (plain_measures measures) pieces))

from_summary : (number : ℕ) (groups : List Formula) (sets : List (List ℕ)) (measures : List AnyMeasure) (entries : Stream Entry)
    → from_all (rows_of_sets number (length groups) sets measures) entries ≡ from_all (λ all. rows_of_sets_summary number sets measures (sets_summary (length groups) sets measures all)) entries
from_summary number groups sets measures entries = ap (unless_fault entries.end) (sym (rows_by_summary number (length groups) sets measures entries.rows))

pub grouping_sets_is : (number : ℕ) (groups : List Formula) (sets : List (List ℕ)) (measures : List AnyMeasure) (input : Stream Row)
    → grouping_sets number groups sets measures input ≡ rows_of_state (rows_of_sets_summary number sets measures) (sets_of_input number groups sets measures input)
unfolding grouping_sets
grouping_sets_is number groups sets measures input =
    from_summary number groups sets measures (entries_in number groups (plain_measures measures) input)
    ∙ rows_by_state (sets_summary (length groups) sets measures) (rows_of_sets_summary number sets measures) (entries_in number groups (plain_measures measures) input)

pub grouping_sets_of_pieces : (number : ℕ) (groups : List Formula) (sets : List (List ℕ)) (measures : List AnyMeasure) (pieces : List (Stream Row))
    → grouping_sets number groups sets measures (glue pieces) ≡ rows_of_state (rows_of_sets_summary number sets measures) (merged_in_order sets_merged (sets_summary (length groups) sets measures []) (map (sets_of_input number groups sets measures) pieces))
grouping_sets_of_pieces number groups sets measures pieces = grouping_sets_is number groups sets measures (glue pieces) ∙ sym (ap (rows_of_state (rows_of_sets_summary number sets measures)) (sets-glue number groups sets measures pieces))
