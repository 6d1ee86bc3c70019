-- Rows that were tested by a read's types are read as they are without.
use Rattle.std.proofs.Common.{◌≡◌, ◌∙◌, ℕ, List, [], ◌∷◌, ◌++◌, Option, Some, None, Ok, map, refl, sym, ap}
use Rattle.std.specs.Option.{option_or}
use Rattle.std.proofs.lemmas.List.{append-nil}
use Rattle.sub_types.specs.Stream.{Stream, rows_alone, ended, followed_by, glue, each_stream, stream_of, each}
use Rattle.sub_types.proofs.StreamLaws.{each_stream-followed_by, each_stream-glue}
use Rattle.sub_types.specs.declared.fault.Fault.{Fault}
use Rattle.sub_types.specs.declared.fault.FaultKind.{FaultKind}
use Rattle.sub_types.specs.declared.kind.Ty.{Ty}
use Rattle.sub_types.specs.declared.value.Value.{Value}
use Rattle.sub_types.specs.declared.value.Value.TheVariants as values
use Rattle.plan_denote.specs.Rows.{Row, Formula, ◌>>=◌, is_true, only_if, at_relation}
use Rattle.plan_denote.specs.Project.{columns_at}
use Rattle.plan_denote.specs.Read.{value_fault, row_fault, fault_or, read_row, read_rows}
use Rattle.table_rows.specs.Read as table

-- what is wrong with a value is the same to the tables as to the plan
value_same : (ty : Ty) (value : Value) → table.value_fault ty value ≡ value_fault ty value
value_same ty values.Null = refl
value_same ty (values.Bool test) = refl
value_same ty (values.Int n) = refl
value_same ty (values.Dec n) = refl
value_same ty (values.Bytes bytes) = refl

-- and so is what is wrong with a row
pub row_same : (types : List Ty) (row : Row) → table.row_fault types row ≡ row_fault types row
row_same [] row = refl
row_same (ty ∷ types) [] = refl
row_same (ty ∷ types) (value ∷ row) = λ i. option_or (value_same ty value i) (row_same types row i)

-- a stream of one piece is that piece
alone_parts : (rows : List Row) (end : Option Fault) → followed_by (followed_by (record { rows = rows; end = end }) (rows_alone [])) (ended None) ≡ record { rows = rows; end = end }
alone_parts rows None = ap (λ all. rows_alone all) (append-nil (rows ++ []) ∙ append-nil rows)
alone_parts rows (Some fault) = refl

alone : (s : Stream Row) → followed_by (followed_by s (rows_alone [])) (ended None) ≡ s
alone s = alone_parts s.rows s.end

module _ (number : ℕ) (types : List Ty) (filter : Formula) (mask : List ℕ) where
  -- what a row gives without a fault of its own, and what it gives
  abbrev unless : Row → Option FaultKind → Stream Row
  unless row fault = stream_of (at_relation number (fault_or fault (filter row >>= (λ test. Ok (only_if (is_true test) (columns_at mask row))))))

  abbrev given : Row → Stream Row
  given row = stream_of (at_relation number (read_row types filter mask row))

  abbrev tested : Row → Stream Row
  tested row = stream_of (table.read_row number types row)

  row_by : (row : Row) (fault : Option FaultKind) → row_fault types row ≡ fault → each_stream given (stream_of (table.read_as number row fault)) ≡ given row
  row_by row None is = alone (given row)
  row_by row (Some kind) is = sym (ap (unless row) is)

  row_again : (row : Row) → each_stream given (tested row) ≡ given row
  row_again row = ap (λ fault. each_stream given (stream_of (table.read_as number row fault))) (row_same types row) ∙ row_by row (row_fault types row) refl

  rows_again : (rows : List Row) → glue (map (each_stream given) (map tested rows)) ≡ glue (map given rows)
  rows_again [] = refl
  rows_again (row ∷ rows) = λ i. followed_by (row_again row i) (rows_again rows i)

  -- a table whose rows were tested is read as the table
  pub read_again : (s : Stream Row) → read_rows number types filter mask (each (table.read_row number types) s) ≡ read_rows number types filter mask s
  unfolding read_rows
  read_again s =
      each_stream-followed_by given (glue (map tested s.rows)) (ended s.end)
      ∙ ap (λ all. followed_by all (ended s.end)) (each_stream-glue given (map tested s.rows) ∙ rows_again s.rows)
