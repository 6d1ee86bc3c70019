-- Expressions at rows, column by column: each is evaluated at the rows before the first fault of those before it, so that the least
-- row with a fault decides, and on that row the first expression.
use Rattle.std.specs.Prelude.{ℕ, List, [], ◌∷◌, Option, Some, None, Result, Ok, Err, map, length, take, if◌then◌else◌}
use Rattle.std.specs.Option.{option_map}
use Rattle.sub_types.specs.declared.fault.FaultKind.{FaultKind}
use Rattle.sub_types.specs.declared.value.Value.{Value}
use Rattle.sub_types.specs.Stream.{Stream}
use Rattle.plan_denote.specs.Rows.{Row, Formula, condition_of, is_true, fault_at}
use Rattle.plan_denote.specs.Aggregate.{Measure, Entry, argument_of}

-- the values before the first fault, and that fault
pub record Column (A : Type 0) : Type 0 where
  pub values : List A
  pub stop : Option FaultKind

abbrev pub at_row : {A : Type 0} → Result A FaultKind → Column A → Column A
at_row (Ok value) rest = record { values = value ∷ rest.values; stop = rest.stop }
at_row (Err kind) rest = record { values = []; stop = Some kind }

-- an expression at rows in order
abbrev pub column : {R A : Type 0} → (R → Result A FaultKind) → List R → Column A
column f [] = record { values = []; stop = None }
column f (row ∷ rows) = at_row (f row) (column f rows)

-- the rows before the first fault
abbrev pub before : {R A : Type 0} → Column A → List R → List R
before first rows = take (length first.values) rows

abbrev pub first_stop : Option FaultKind → Option FaultKind → Option FaultKind
first_stop (Some kind) other = Some kind
first_stop None other = other

abbrev pub zipped : {A B C : Type 0} → (A → B → C) → List A → List B → List C
zipped pair (x ∷ xs) (y ∷ ys) = pair x y ∷ zipped pair xs ys
zipped pair _ _ = []

-- a column and one at the rows before its fault, whose own fault stands before it
abbrev pub beside : {A B C : Type 0} → (A → B → C) → Column A → Column B → Column C
beside pair first second = record { values = zipped pair first.values second.values; stop = first_stop second.stop first.stop }

-- expressions from left to right
abbrev pub columns : {R A : Type 0} → List (R → Result A FaultKind) → List R → Column (List A)
columns [] rows = record { values = map (λ row. []) rows; stop = None }
columns (f ∷ exprs) rows = beside (λ x xs. x ∷ xs) (column f rows) (columns exprs (before (column f rows) rows))

-- the rows for which a test is true
abbrev pub chosen : List Value → List Row → List Row
chosen (test ∷ tests) (row ∷ rows) = if is_true test then row ∷ chosen tests rows else chosen tests rows
chosen _ _ = []

-- the values of the rows for which a test is true, each at its row, as long as there are any
abbrev pub next_value : List Value → (List Value → List (Option Value)) → List (Option Value)
next_value [] rest = []
next_value (value ∷ values) rest = Some value ∷ rest values

abbrev pub spread : List Value → List Value → List (Option Value)
spread [] values = []
spread (test ∷ tests) values = if is_true test then next_value values (spread tests) else None ∷ spread tests values

-- what a measure takes: its filter at all rows, and its argument at those for which the filter is true
abbrev pub members : Measure → List Row → Column (Option Value)
members measure rows = let tests = column (condition_of measure.filter) rows in
    let taken = column (argument_of measure.arg) (chosen tests.values rows) in
    record { values = spread tests.values taken.values; stop = first_stop taken.stop tests.stop }

-- what the measures take, from left to right
abbrev pub members_of : List Measure → List Row → Column (List (Option Value))
members_of [] rows = record { values = map (λ row. []) rows; stop = None }
members_of (measure ∷ measures) rows = beside (λ x xs. x ∷ xs) (members measure rows) (members_of measures (before (members measure rows) rows))

-- keys and what the measures take, column by column
abbrev pub entries_of : List Formula → List Measure → List Row → Column Entry
entries_of groups measures rows = let keys = columns groups rows in beside (λ key taken. (key, taken)) keys (members_of measures (before keys rows))

-- a column as a stream of the relation of this number
abbrev pub stream_at : {A : Type 0} → ℕ → Column A → Stream A
stream_at number one = record { rows = one.values; end = option_map (fault_at number) one.stop }
