-- What is known of the rows of grouping sets so far.
use Rattle.std.specs.Prelude.{◌≡◌, ◌≤◌, ℕ, List, Bool, true, false, Option, None, Some, map, length, nat_le}
use Rattle.std.specs.List.{AllByRecursion}
use Rattle.sub_types.specs.declared.fault.Fault.{Fault}
use Rattle.sub_types.specs.declared.kind.Ty.{Ty}
use Rattle.sub_types.specs.Kind.{IsKind}
use Rattle.sub_types.specs.Stream.{Stream}
use Rattle.sub_types.specs.Value.{Fits}
use Rattle.well_typed.specs.Columns.{MAX_GROUPINGS}
use Rattle.well_typed.specs.ExprTyped.{IsTypedOver}
use Rattle.well_typed.specs.WellTyped.{IsSetMeasureOver}
use Rattle.plan_denote.specs.Computed.{Row}
use Rattle.plan_denote.specs.Aggregate.{MAX_INPUT, Measure, Entry}
use Rattle.plan_denote.specs.Denote.{measure_of}
use Rattle.plan_denote.specs.Eval.{eval}
use Rattle.rel_specs.specs.declared.groups.SetSpec.{SetSpec}
use Rattle.plan_pipes.specs.RowMeaning.{sets_of}
use Rattle.group_laws.specs.Pieces.{entries_in}
use Rattle.set_states.specs.declared.sets.Sets.{Sets}
use Rattle.set_states.specs.States.{AreKnown, measure_in}
use Rattle.group_sets.specs.declared.partial.SetsPartial.{SetsPartial}
use Rattle.group_sets.specs.declared.state.State.{State}
use Rattle.group_sets.specs.declared.state.State.TheVariants as states

-- how many grouping expressions there are, and the measures, as over all values
abbrev pub width_of : SetSpec → ℕ
width_of spec = length spec.groups.items

abbrev pub measures_of : SetSpec → List Measure
measures_of spec = map measure_of (map measure_in spec.measures.items)

-- the keys of rows and what the measures take of them, up to the first fault
abbrev pub entries_by : SetSpec → Stream Row → Stream Entry
entries_by spec rows = entries_in spec.relation (map eval spec.groups.items) (measures_of spec) rows

-- the groups of each set, of all these rows
abbrev pub IsKnown : SetSpec → List Entry → Sets → Type 0
IsKnown spec entries sets = AreKnown (width_of spec) spec.measures.items (sets_of spec) entries sets

-- what a state says of rows: nothing where no memory was found
abbrev pub Holds : SetSpec → Stream Entry → State → Type 0
Holds spec s (states.Known sets) = (s.end ≡ None) × IsKnown spec s.rows sets
Holds spec s states.TooMany = (s.end ≡ None) × (nat_le (length s.rows) MAX_INPUT ≡ false)
Holds spec s (states.Ended fault) = s.end ≡ Some fault
Holds spec s states.Lost = Unit {0}

-- it is what is known of these rows
abbrev pub IsOf : SetSpec → Stream Row → SetsPartial → Type 0
IsOf spec rows partial = Holds spec (entries_by spec rows) partial.state

-- the expressions are well typed over these types, and there are no more sets than may be
pub record IsOver (types : List Ty) (spec : SetSpec) : Type 0 where
  pub kinds : AllByRecursion (λ (ty : Ty). IsKind ty.kind) types
  pub groups : AllByRecursion (IsTypedOver types) spec.groups.items
  pub measures : AllByRecursion (IsSetMeasureOver types) spec.measures.items
  pub few : length (sets_of spec) ≤ MAX_GROUPINGS

-- it is what is known of some rows of these types
pub record IsFor (types : List Ty) (spec : SetSpec) (partial : SetsPartial) : Type 0 where
  pub over : IsOver types spec
  pub rows : Stream Row
  pub fit : AllByRecursion (Fits types) rows.rows
  pub is : IsOf spec rows partial
  pub plain : partial.plain.items ≡ map measure_in spec.measures.items

-- of some types
abbrev pub IsForSome : SetSpec → SetsPartial → Type 0
IsForSome spec partial = (types : List Ty) × IsFor types spec partial

-- two of the same types
abbrev pub AreFor : SetSpec → SetsPartial → SetsPartial → Type 0
AreFor spec partial later = (types : List Ty) × IsFor types spec partial × IsFor types spec later

-- nothing is known any more
abbrev pub is_lost_state : State → Bool
is_lost_state states.Lost = true
is_lost_state _ = false

abbrev pub is_lost : SetsPartial → Bool
is_lost partial = is_lost_state partial.state

-- the fault that it keeps
abbrev pub fault_in_state : State → Option Fault
fault_in_state (states.Ended fault) = Some fault
fault_in_state _ = None

abbrev pub fault_in : SetsPartial → Option Fault
fault_in partial = fault_in_state partial.state

-- it is lost, or keeps a fault
abbrev pub is_spent_state : State → Bool
is_spent_state (states.Ended fault) = true
is_spent_state states.Lost = true
is_spent_state _ = false

abbrev pub is_spent : SetsPartial → Bool
is_spent partial = is_spent_state partial.state

-- a state as the calls need it: what is known is of some rows
abbrev pub Stands : SetSpec → State → Type 0
Stands spec (states.Known sets) = (entries : List Entry) × IsKnown spec entries sets
Stands spec _ = Unit {0}
