-- What is known of rows and of the rows behind them.
use Rattle.std.specs.Prelude.{◌≡◌, ◌<◌, List, Option, None, Some, Result, Ok, Err, length}
use Rattle.std.specs.List.{All, range_with_len}
use Rattle.sub_types.specs.declared.fault.Fault.{Fault}
use Rattle.sub_types.specs.Stream.{Stream, followed_by}
use Rattle.plan_denote.specs.Computed.{Row}
use Rattle.plan_denote.specs.Aggregate.{Entry}
use Rattle.rel_specs.specs.declared.groups.AggSpec.{AggSpec}
use Rattle.group_columns.specs.Columns.{IsWhole}
use Rattle.group_inputs.specs.declared.inputs.Inputs.{Inputs}
use Rattle.group_states.specs.States.{AreEntries}
use Rattle.aggregate.specs.declared.state.State.{State}
use Rattle.aggregate.specs.declared.state.State.TheVariants as states
use Rattle.aggregate.specs.States.{Holds, entries_by}

-- the inputs of a piece's rows
pub record IsPart (spec : AggSpec) (later : List Entry) (inputs : Inputs) : Type 0 where
  pub entries : AreEntries inputs.columns.items inputs.keys inputs.taken.items later
  pub places : inputs.columns.items ≡ range_with_len 0 (length spec.groups.items)
  pub columns : All (λ column. column < length inputs.keys.columns.items) inputs.columns.items
  pub all : length inputs.taken.items ≡ length spec.measures.items
  pub whole : All (IsWhole inputs.keys.rows) inputs.taken.items

-- all of them, or the fault that ends them
abbrev pub IsRead : AggSpec → Stream Row → Result Inputs Fault → Type 0
IsRead spec input (Ok inputs) = ((entries_by spec input).end ≡ None) × IsPart spec (entries_by spec input).rows inputs
IsRead spec input (Err fault) = (entries_by spec input).end ≡ Some fault

-- a state of rows becomes one of these and of more
abbrev pub AreTogether : AggSpec → State → Stream Entry → State → Type 0
AreTogether spec state more next = (s : Stream Entry) → Holds spec s state → Holds spec (followed_by s more) next

-- a state of rows and one of later rows become one of both
abbrev pub AreMerged : AggSpec → State → State → State → Type 0
AreMerged spec state later both = (s more : Stream Entry) → Holds spec s state → Holds spec more later → Holds spec (followed_by s more) both

-- inputs, unless their piece ends in a fault
abbrev pub or_end : Option Fault → Inputs → Result Inputs Fault
or_end None inputs = Ok inputs
or_end (Some fault) inputs = Err fault

-- too many rows, and what was read of a piece, or a later state
abbrev pub many_next : Result Inputs Fault → State
many_next (Ok inputs) = states.TooMany
many_next (Err fault) = states.Ended fault

abbrev pub many_and : State → State
many_and (states.Known groups) = states.TooMany
many_and states.TooMany = states.TooMany
many_and (states.Ended fault) = states.Ended fault
many_and states.Lost = states.Lost
