-- What is known of rows and of the rows behind them.
use Rattle.std.specs.Prelude.{◌≡◌, List, Option, None, Some, Result, Ok, Err}
use Rattle.sub_types.specs.declared.fault.Fault.{Fault}
use Rattle.sub_types.specs.Stream.{Stream, followed_by}
use Rattle.plan_denote.specs.Computed.{Row}
use Rattle.plan_denote.specs.Aggregate.{Entry}
use Rattle.rel_specs.specs.declared.groups.SetSpec.{SetSpec}
use Rattle.set_inputs.specs.declared.inputs.SetInputs.{SetInputs}
use Rattle.set_inputs.specs.Inputs.{AreInputs}
use Rattle.group_sets.specs.declared.state.State.{State}
use Rattle.group_sets.specs.declared.state.State.TheVariants as states
use Rattle.group_sets.specs.States.{Holds, width_of, entries_by}

-- the inputs of a piece's rows
abbrev pub IsPart : SetSpec → List Entry → SetInputs → Type 0
IsPart spec later given = AreInputs (width_of spec) spec.measures.items later given

-- all of them, or the fault that ends them
abbrev pub IsRead : SetSpec → Stream Row → Result SetInputs Fault → Type 0
IsRead spec input (Ok given) = ((entries_by spec input).end ≡ None) × IsPart spec (entries_by spec input).rows given
IsRead spec input (Err fault) = (entries_by spec input).end ≡ Some fault

-- a state of rows becomes one of these and of more
abbrev pub AreTogether : SetSpec → State → Stream Entry → State → Type 0
AreTogether spec state more next = (s : Stream Entry) → Holds spec s state → Holds spec (followed_by s more) next

-- a state of rows and one of later rows become one of both
abbrev pub AreMerged : SetSpec → State → State → State → Type 0
AreMerged spec state later both = (s more : Stream Entry) → Holds spec s state → Holds spec more later → Holds spec (followed_by s more) both

-- inputs, unless their piece ends in a fault
abbrev pub or_end : Option Fault → SetInputs → Result SetInputs Fault
or_end None given = Ok given
or_end (Some fault) given = Err fault

-- too many rows, and what was read of a piece, or a later state
abbrev pub many_next : Result SetInputs Fault → State
many_next (Ok given) = states.TooMany
many_next (Err fault) = states.Ended fault

abbrev pub many_and : State → State
many_and (states.Known sets) = states.TooMany
many_and states.TooMany = states.TooMany
many_and (states.Ended fault) = states.Ended fault
many_and states.Lost = states.Lost
