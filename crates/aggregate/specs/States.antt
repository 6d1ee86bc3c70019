-- What is known of an aggregate's rows so far.
use Rattle.std.specs.Prelude.{◌≡◌, ◌≤◌, List, [], Bool, true, false, Option, None, Some, map, length, nat_le}
use Rattle.std.specs.List.{AllByRecursion}
use Rattle.sub_types.specs.declared.fault.Fault.{Fault}
use Rattle.sub_types.specs.declared.kind.Ty.{Ty}
use Rattle.sub_types.specs.Kind.{IsKind}
use Rattle.sub_types.specs.Stream.{Stream}
use Rattle.sub_types.specs.Value.{Fits}
use Rattle.well_typed.specs.ExprTyped.{IsTypedOver}
use Rattle.well_typed.specs.WellTyped.{IsMeasureOver}
use Rattle.plan_denote.specs.Computed.{Row}
use Rattle.plan_denote.specs.Aggregate.{MAX_INPUT, Entry, keys_in}
use Rattle.plan_denote.specs.Denote.{measure_of}
use Rattle.plan_denote.specs.Eval.{eval}
use Rattle.plan_typed.specs.declared.rel.TypedMeasure.{TypedMeasure}
use Rattle.rel_specs.specs.declared.groups.AggSpec.{AggSpec}
use Rattle.group_laws.specs.Pieces.{entries_in}
use Rattle.group_tallies.specs.declared.tallies.Keeping.{Keeping}
use Rattle.group_tallies.specs.Kept as tallies
use Rattle.group_states.specs.declared.groups.Groups.{Groups}
use Rattle.group_states.specs.States.{IsSound, Knows}
use Rattle.aggregate.specs.declared.partial.Partial.{Partial}
use Rattle.aggregate.specs.declared.state.State.{State}
use Rattle.aggregate.specs.declared.state.State.TheVariants as states

-- what a measure keeps
abbrev pub keeping : TypedMeasure → Keeping
keeping measure = tallies.keeping_of measure.func

-- the keys of rows and what the measures take of them, up to the first fault
abbrev pub entries_by : AggSpec → Stream Row → Stream Entry
entries_by spec rows = entries_in spec.relation (map eval spec.groups.items) (map measure_of spec.measures.items) rows

-- the groups of all these rows, and what is kept of each
pub record IsKnown (spec : AggSpec) (entries : List Entry) (groups : Groups) : Type 0 where
  pub sound : IsSound groups
  pub kept : map tallies.keeping_in groups.columns.items ≡ map keeping spec.measures.items
  pub keys : groups.keys.rows ≡ keys_in (map eval spec.groups.items) [] entries
  pub knows : Knows (map keeping spec.measures.items) entries groups
  pub few : length entries ≤ MAX_INPUT

-- what a state says of rows: nothing where no memory was found
abbrev pub Holds : AggSpec → Stream Entry → State → Type 0
Holds spec s (states.Known groups) = (s.end ≡ None) × IsKnown spec s.rows groups
Holds spec s states.TooMany = (s.end ≡ None) × (nat_le (length s.rows) MAX_INPUT ≡ false)
Holds spec s (states.Ended fault) = s.end ≡ Some fault
Holds spec s states.Lost = Unit {0}

-- it is what is known of these rows
abbrev pub IsOf : AggSpec → Stream Row → Partial → Type 0
IsOf spec rows partial = Holds spec (entries_by spec rows) partial.state

-- the expressions are well typed over these types
pub record IsOver (types : List Ty) (spec : AggSpec) : Type 0 where
  pub kinds : AllByRecursion (λ (ty : Ty). IsKind ty.kind) types
  pub groups : AllByRecursion (IsTypedOver types) spec.groups.items
  pub measures : AllByRecursion (IsMeasureOver types) spec.measures.items

-- it is what is known of some rows of these types
pub record IsFor (types : List Ty) (spec : AggSpec) (partial : Partial) : Type 0 where
  pub over : IsOver types spec
  pub rows : Stream Row
  pub fit : AllByRecursion (Fits types) rows.rows
  pub is : IsOf spec rows partial

-- of some types
abbrev pub IsForSome : AggSpec → Partial → Type 0
IsForSome spec partial = (types : List Ty) × IsFor types spec partial

-- two of the same types
abbrev pub AreFor : AggSpec → Partial → Partial → Type 0
AreFor spec partial later = (types : List Ty) × IsFor types spec partial × IsFor types spec later

-- nothing is known any more
abbrev pub is_lost_state : State → Bool
is_lost_state states.Lost = true
is_lost_state _ = false

abbrev pub is_lost : Partial → Bool
is_lost partial = is_lost_state partial.state

-- the fault that it keeps
abbrev pub fault_in_state : State → Option Fault
fault_in_state (states.Ended fault) = Some fault
fault_in_state _ = None

abbrev pub fault_in : Partial → Option Fault
fault_in partial = fault_in_state partial.state

-- it is lost, or keeps a fault
abbrev pub is_spent_state : State → Bool
is_spent_state (states.Ended fault) = true
is_spent_state states.Lost = true
is_spent_state _ = false

abbrev pub is_spent : Partial → Bool
is_spent partial = is_spent_state partial.state

-- a state as the calls need it: the measures keep what they are to keep, of no more rows than may be
abbrev pub Stands : AggSpec → State → Type 0
Stands spec (states.Known groups) = IsSound groups × (map tallies.keeping_in groups.columns.items ≡ map keeping spec.measures.items) × (groups.rows ≤ MAX_INPUT)
Stands spec _ = Unit {0}
