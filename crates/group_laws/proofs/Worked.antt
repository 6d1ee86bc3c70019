-- Worked rows: what is known of pieces, merged, and the rows that it gives, by computation.
use Rattle.std.proofs.Common.{◌≡◌, ℕ, pos, negsuc, List, [], ◌∷◌, Bool, true, false, Some, None, Result, Ok, Err, refl, slice_index_or}
use Rattle.sub_types.specs.declared.fault.Fault.{Fault}
use Rattle.sub_types.specs.declared.fault.FaultKind.TheVariants as faults
use Rattle.sub_types.specs.declared.kind.Kind.TheVariants as kinds
use Rattle.sub_types.specs.declared.value.Value.{Value}
use Rattle.sub_types.specs.declared.value.Value.TheVariants as values
use Rattle.sub_types.specs.Stream.{Stream, rows_alone}
use Rattle.plan_typed.specs.declared.expr.Func.{Func}
use Rattle.plan_typed.specs.declared.expr.Func.TheVariants as funcs
use Rattle.plan_typed.specs.declared.expr.Overflow.TheVariants as modes
use Rattle.plan_denote.specs.Rows.{Row, Formula}
use Rattle.plan_denote.specs.Whole.{quotient}
use Rattle.plan_denote.specs.Aggregate.{Measure, Summary, summary, rows_of_summary}
use Rattle.plan_denote.specs.GroupSets.{AnyMeasure}
use Rattle.group_laws.specs.Merged.{merged}
use Rattle.group_laws.specs.States.{states_merged, rows_of_state}
use Rattle.group_laws.specs.SetStates.{sets_summary, sets_merged, rows_of_sets_summary}
use Rattle.group_laws.specs.Pieces.{known_of_input, sets_of_input}

abbrev int : ℕ → Value
int n = values.Int (pos n)

-- a letter
abbrev text : ℕ → Value
text letter = values.Bytes (letter ∷ [])

abbrev column : ℕ → Formula
column index row = Ok (slice_index_or row index values.Null)

abbrev over_second : Func → Measure
over_second func = record { func = func; arg = Some (column 1); filter = None; kind = kinds.I64 }

abbrev most : ℕ
most = 9223372036854775807

-- groups by the first column, of the sum of the second
abbrev by_first : Stream Row → Result Summary Fault
by_first = known_of_input 4 (column 0 ∷ []) (over_second funcs.Sum ∷ [])

-- the group of b comes first; where the sum of a overflows in the whole, the row of b is there
overflow_behind_first_group : rows_of_state (rows_of_summary 4 (over_second funcs.Sum ∷ []))
    (states_merged merged (by_first (rows_alone ((text 98 ∷ int 1 ∷ []) ∷ (text 97 ∷ int most ∷ []) ∷ []))) (by_first (rows_alone ((text 97 ∷ int 1 ∷ []) ∷ []))))
    ≡ record { rows = (text 98 ∷ int 1 ∷ []) ∷ []; end = Some (record { relation = 4; kind = faults.Overflow }) }
unfolding summary rows_of_summary
overflow_behind_first_group = refl

-- a sum leaves the range and comes back
range_is_of_the_whole : rows_of_state (rows_of_summary 4 (over_second funcs.Sum ∷ []))
    (states_merged merged (by_first (rows_alone ((text 97 ∷ int most ∷ []) ∷ (text 97 ∷ int 1 ∷ []) ∷ []))) (by_first (rows_alone ((text 99 ∷ int 5 ∷ []) ∷ (text 97 ∷ values.Int (negsuc 0) ∷ []) ∷ []))))
    ≡ rows_alone ((text 97 ∷ int most ∷ []) ∷ (text 99 ∷ int 5 ∷ []) ∷ [])
unfolding summary rows_of_summary
range_is_of_the_whole = refl

-- nulls are one group, in two pieces too
nulls_are_one_group : rows_of_state (rows_of_summary 4 (over_second funcs.Sum ∷ []))
    (states_merged merged (by_first (rows_alone ((values.Null ∷ int 1 ∷ []) ∷ []))) (by_first (rows_alone ((values.Null ∷ int 2 ∷ []) ∷ []))))
    ≡ rows_alone ((values.Null ∷ int 3 ∷ []) ∷ [])
unfolding summary rows_of_summary
nulls_are_one_group = refl

-- six by the second column
abbrev sixth : Formula
sixth row = quotient kinds.I64 modes.Error (int 6) (slice_index_or row 1 values.Null)

abbrev of_sixths : Measure
of_sixths = record { func = funcs.Sum; arg = Some sixth; filter = None; kind = kinds.I64 }

-- the earlier piece's fault stays
earlier_fault_stays : states_merged merged (known_of_input 4 [] (of_sixths ∷ []) (rows_alone ((text 97 ∷ int 0 ∷ []) ∷ []))) (known_of_input 5 [] (of_sixths ∷ []) (rows_alone ((text 97 ∷ int 0 ∷ []) ∷ [])))
    ≡ Err (record { relation = 4; kind = faults.DivideByZero })
earlier_fault_stays = refl

abbrev any_second : Func → Bool → AnyMeasure
any_second func distinct = record { measure = over_second func; distinct = distinct }

abbrev two_measures : List AnyMeasure
two_measures = any_second funcs.Sum false ∷ any_second funcs.Count true ∷ []

abbrev two_sets : List (List ℕ)
two_sets = (0 ∷ []) ∷ [] ∷ []

-- a distinct value is counted once, in two pieces too, and a set without groups has one group
distinct_in_two_pieces : rows_of_state (rows_of_sets_summary 0 two_sets two_measures)
    (states_merged sets_merged (sets_of_input 0 (column 0 ∷ []) two_sets two_measures (rows_alone ((text 97 ∷ int 1 ∷ []) ∷ [])))
    (sets_of_input 0 (column 0 ∷ []) two_sets two_measures (rows_alone ((text 97 ∷ int 1 ∷ []) ∷ (text 98 ∷ int 2 ∷ []) ∷ []))))
    ≡ rows_alone ((text 97 ∷ int 2 ∷ int 1 ∷ int 0 ∷ []) ∷ (text 98 ∷ int 2 ∷ int 1 ∷ int 0 ∷ []) ∷ (values.Null ∷ int 4 ∷ int 2 ∷ int 1 ∷ []) ∷ [])
unfolding sets_summary rows_of_sets_summary
distinct_in_two_pieces = refl
