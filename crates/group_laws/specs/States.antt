-- What is kept of the rows seen so far: a summary, or the fault that ended them.
use Rattle.std.specs.Prelude.{List, Option, Some, None, Result, Ok, Err}
use Rattle.std.specs.List.{fold}
use Rattle.sub_types.specs.declared.fault.Fault.{Fault}
use Rattle.sub_types.specs.Stream.{Stream, ended}
use Rattle.plan_denote.specs.Rows.{Row}

-- the summary of all rows, or the fault in which they end
abbrev pub state_at : {A S : Type 0} → (List A → S) → List A → Option Fault → Result S Fault
state_at summarize rows None = Ok (summarize rows)
state_at summarize rows (Some fault) = Err fault

abbrev pub state_of : {A S : Type 0} → (List A → S) → Stream A → Result S Fault
state_of summarize s = state_at summarize s.rows s.end

-- a state and a later one: the first fault stays
abbrev pub states_merged : {S : Type 0} → (S → S → S) → Result S Fault → Result S Fault → Result S Fault
states_merged merge (Err fault) later = Err fault
states_merged merge (Ok known) (Err fault) = Err fault
states_merged merge (Ok known) (Ok later) = Ok (merge known later)

-- states merged in order, from that of no rows on
abbrev pub merged_in_order : {S : Type 0} → (S → S → S) → S → List (Result S Fault) → Result S Fault
merged_in_order merge none states = fold (states_merged merge) (Ok none) states

-- the rows that a state gives: none where it is a fault
abbrev pub rows_of_state : {S : Type 0} → (S → Stream Row) → Result S Fault → Stream Row
rows_of_state rows (Ok known) = rows known
rows_of_state rows (Err fault) = ended (Some fault)
