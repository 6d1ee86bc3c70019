-- What a measure takes of the first rows of a batch.
use Rattle.std.specs.Prelude.{◌≡◌, ℕ, ◌≤◌, List, [], ◌∷◌, Option, Some, None, map, length, if◌then◌else◌}
use Rattle.std.specs.Option.{option_map}
use Rattle.std.specs.List.{All}
use Rattle.sub_types.specs.declared.kind.Kind.TheVariants.{Bool}
use Rattle.sub_types.specs.declared.value.Value.{Value}
use Rattle.plan_typed.specs.declared.expr.Expr.{Expr}
use Rattle.plan_typed.specs.declared.rel.TypedMeasure.{TypedMeasure}
use Rattle.plan_denote.specs.Computed.{is_true}
use Rattle.plan_denote.specs.Rows.{condition_of}
use Rattle.plan_denote.specs.Aggregate as aggregate
use Rattle.plan_denote.specs.Denote.{measure_of}
use Rattle.plan_denote.specs.Eval.{eval}
use Rattle.batch.specs.declared.batch.Batch.{Batch}
use Rattle.batch.specs.declared.column.Column as stored
use Rattle.batch.specs.Column.{column_values}
use Rattle.kernels.specs.declared.selection.Stop.{Stop}
use Rattle.kernels.specs.declared.selection.Stop.TheVariants.{Never, At}
use Rattle.group_laws.specs.Columns.{Column, column, chosen, spread, members, members_of}
use Rattle.group_columns.specs.declared.taken.Taken.{Taken}
use Rattle.group_columns.specs.Columns as taken
use Rattle.group_columns.specs.Columns.{IsWhole, values_or_true, trues_in}
use Rattle.group_inputs.specs.declared.before.Before.{Before}
use Rattle.group_inputs.specs.Before.{first_rows, IsAfter}

-- the rows for which a test is true
abbrev pub places_in : List ℕ → List Value → List ℕ
places_in (row ∷ rows) (test ∷ tests) = if is_true test then row ∷ places_in rows tests else places_in rows tests
places_in _ _ = []

-- truth values at so many rows
pub record IsTest (rows : ℕ) (tests : stored.Column) : Type 0 where
  pub kind : tests.ty.kind ≡ Bool
  pub long : length (column_values tests) ≡ rows

-- what a stop at a row leaves
abbrev pub IsBefore : Stop → Before → Before → Type 0
IsBefore Never tested after = after ≡ tested
IsBefore (At row kind) tested after = (after.rows ≡ row) × (after.stop ≡ Some kind)

-- the values of a filter, each true where there is none
pub record IsTested (filter : Option Expr) (batch : Batch) (before : Before) (tests : Option stored.Column) (tested : Before) : Type 0 where
  pub values : values_or_true before.rows tests ≡ (column (condition_of (option_map eval filter)) (first_rows before.rows batch)).values
  pub after : IsAfter (column (condition_of (option_map eval filter)) (first_rows before.rows batch)) before tested

-- the argument's values at the rows for which a test is true
abbrev pub argument_at : Option Expr → Batch → ℕ → List Value → Column Value
argument_at arg batch rows tests = column (aggregate.argument_of (option_map eval arg)) (chosen tests (first_rows rows batch))

-- what is taken of rows with these tests
abbrev pub taken_by : List Value → Column Value → Column (Option Value)
taken_by tests values = record { values = spread tests values.values; stop = values.stop }

-- an expression at the rows for which a test is true
pub record IsChosen (arg : Expr) (batch : Batch) (tests : List Value) (tested : Before) (given : stored.Column) (ended : Before) : Type 0 where
  pub values : column_values given ≡ (argument_at (Some arg) batch tested.rows tests).values
  pub after : IsAfter (taken_by tests (argument_at (Some arg) batch tested.rows tests)) tested ended
  pub whole : (argument_at (Some arg) batch tested.rows tests).stop ≡ None → trues_in tests ≤ length (column_values given)

-- the argument, each value true where there is none
pub record IsArgument (arg : Option Expr) (batch : Batch) (tests : Option stored.Column) (tested : Before) (given : Option stored.Column) (ended : Before) : Type 0 where
  pub after : IsAfter (taken_by (values_or_true tested.rows tests) (argument_at arg batch tested.rows (values_or_true tested.rows tests))) tested ended
  pub values : spread (values_or_true tested.rows tests) (values_or_true tested.rows given) ≡ spread (values_or_true tested.rows tests) (argument_at arg batch tested.rows (values_or_true tested.rows tests)).values
  pub whole : (argument_at arg batch tested.rows (values_or_true tested.rows tests)).stop ≡ None → trues_in (values_or_true tested.rows tests) ≤ length (values_or_true tested.rows given)

-- what is taken of all rows
pub record IsWholly (measure : TypedMeasure) (batch : Batch) (rows : ℕ) (one : Taken) : Type 0 where
  pub members : taken.members_of rows one ≡ (members (measure_of measure) (first_rows rows batch)).values
  pub whole : IsWhole rows one

-- what a measure takes of the first rows
pub record IsTaking (measure : TypedMeasure) (batch : Batch) (before : Before) (one : Taken) (ended : Before) : Type 0 where
  pub after : IsAfter (members (measure_of measure) (first_rows before.rows batch)) before ended
  pub wholly : ended.stop ≡ None → IsWholly measure batch before.rows one

-- what measures take of all rows
pub record AreWholly (measures : List TypedMeasure) (batch : Batch) (rows : ℕ) (all : List Taken) : Type 0 where
  pub members : map (taken.members_of rows) all ≡ map (λ measure. (members (measure_of measure) (first_rows rows batch)).values) measures
  pub whole : All (IsWhole rows) all

pub record AreTakings (measures : List TypedMeasure) (batch : Batch) (before : Before) (all : List Taken) (ended : Before) : Type 0 where
  pub after : IsAfter (members_of (map measure_of measures) (first_rows before.rows batch)) before ended
  pub wholly : ended.stop ≡ None → AreWholly measures batch before.rows all
