-- The keys of a batch's rows and what measures take of them.
use Rattle.std.specs.Prelude.{◌≡◌, ◌<◌, List, None, Some, map, length}
use Rattle.std.specs.List.{All, range_with_len}
use Rattle.plan_typed.specs.declared.expr.Expr.{Expr}
use Rattle.plan_typed.specs.declared.rel.TypedMeasure.{TypedMeasure}
use Rattle.plan_denote.specs.Aggregate.{Entry}
use Rattle.plan_denote.specs.Denote.{measure_of}
use Rattle.plan_denote.specs.Eval.{eval}
use Rattle.batch.specs.declared.batch.Batch.{Batch}
use Rattle.batch.specs.declared.column.Column as stored
use Rattle.batch.specs.BatchRows.{rows_of}
use Rattle.batch.specs.Column.{column_values}
use Rattle.group_laws.specs.Columns.{Column, column, columns, entries_of}
use Rattle.group_columns.specs.Columns.{IsWhole}
use Rattle.group_states.specs.States.{AreEntries}
use Rattle.group_inputs.specs.declared.before.Before.{Before}
use Rattle.group_inputs.specs.declared.inputs.Evaluated.{Evaluated}
use Rattle.group_inputs.specs.declared.inputs.Evaluated.TheVariants.{All as Everything, Fault}
use Rattle.group_inputs.specs.declared.inputs.Inputs.{Inputs}
use Rattle.group_inputs.specs.Before.{first_rows, IsAfter}

-- the columns of expressions at all rows
pub record AreKeyColumns (groups : List Expr) (batch : Batch) (before : Before) (keys : List stored.Column) (ended : Before) : Type 0 where
  pub after : IsAfter (columns (map eval groups) (first_rows before.rows batch)) before ended
  pub values : ended.stop ≡ None → map column_values keys ≡ map (λ group. (column (eval group) (first_rows before.rows batch)).values) groups

-- the entries of a batch's rows, up to the first fault
abbrev pub entries_at : List Expr → List TypedMeasure → Batch → Column Entry
entries_at groups measures batch = entries_of (map eval groups) (map measure_of measures) (rows_of batch)

-- the keys and what the measures take, as columns
pub record AreInputs (groups : List Expr) (measures : List TypedMeasure) (batch : Batch) (inputs : Inputs) : Type 0 where
  pub none : (entries_at groups measures batch).stop ≡ None
  pub entries : AreEntries inputs.columns.items inputs.keys inputs.taken.items (entries_at groups measures batch).values
  pub rows : inputs.keys.rows ≡ batch.rows
  pub places : inputs.columns.items ≡ range_with_len 0 (length groups)
  pub columns : All (λ column. column < length inputs.keys.columns.items) inputs.columns.items
  pub all : length inputs.taken.items ≡ length measures
  pub whole : All (IsWhole batch.rows) inputs.taken.items

abbrev pub IsEvaluated : List Expr → List TypedMeasure → Batch → Evaluated → Type 0
IsEvaluated groups measures batch (Everything inputs) = AreInputs groups measures batch inputs
IsEvaluated groups measures batch (Fault kind) = (entries_at groups measures batch).stop ≡ Some kind
