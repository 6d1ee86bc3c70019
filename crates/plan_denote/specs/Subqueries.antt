-- The values of subqueries (Substrait `Expression.Subquery`), and what a plan with subqueries denotes.
use Rattle.std.specs.Prelude.{ℕ, List, [], ◌∷◌, ◌++◌, true, not, Option, Some, None, Result, Ok, Err, map, slice_index_or}
use Rattle.sub_types.specs.declared.fault.Fault.{Fault}
use Rattle.sub_types.specs.declared.fault.FaultKind.TheVariants as faults
use Rattle.sub_types.specs.declared.kind.Kind.TheVariants as kinds
use Rattle.sub_types.specs.declared.kind.Ty.{Ty}
use Rattle.sub_types.specs.declared.value.Value.{Value}
use Rattle.sub_types.specs.declared.value.Value.TheVariants as values
use Rattle.sub_types.specs.Stream.{Stream, ended}
use Rattle.plan_typed.specs.declared.rel.Rel.{Rel, out-Rel}
use Rattle.plan_typed.specs.declared.sub.Holed.{Holed}
use Rattle.plan_typed.specs.declared.sub.Sub.{Sub}
use Rattle.plan_typed.specs.declared.sub.SubKind.{SubKind}
use Rattle.plan_typed.specs.declared.sub.SubKind.TheVariants as subs
use Rattle.plan_typed.specs.Types.{columns_of}
use Rattle.plan_denote.specs.Rows.{Row, ◌>>=◌, is_empty, fault_at}
use Rattle.plan_denote.specs.Denote.{Tables, denote}
pub use Rattle.plan_denote.specs.Holes.{Worth, Single, Among, Known, filled}

-- the value of a row of one column
abbrev pub value_in : Row → Value
value_in row = slice_index_or row 0 values.Null

-- the value of at most one row
abbrev pub single : ℕ → List Row → Result Worth Fault
single number [] = Ok (Single values.Null)
single number (row ∷ []) = Ok (Single (value_in row))
single number _ = Err (fault_at number faults.ManyRows)

-- the type of the first column
abbrev pub first_type : List Ty → Ty
first_type [] = record { kind = kinds.Bool; nullable = true }
first_type (ty ∷ _) = ty

-- what a subquery is worth by its rows: the value of the one row, the values of its column, or whether there is a row
abbrev pub worth_of : Rel → SubKind → List Row → Result Worth Fault
worth_of rel subs.Scalar rows = single (out-Rel rel).number rows
worth_of rel subs.In rows = Ok (Among (first_type (columns_of rel)) (map value_in rows))
worth_of rel subs.Exists rows = Ok (Single (values.Bool (not (is_empty rows))))

-- the same of a stream: its fault comes first
abbrev pub worth_unless : Option Fault → Result Worth Fault → Result Worth Fault
worth_unless None worth = worth
worth_unless (Some fault) worth = Err fault

abbrev pub worth_of_stream : Sub → Stream Row → Result Worth Fault
worth_of_stream sub s = worth_unless s.end (worth_of sub.rel sub.kind s.rows)

-- the subqueries in order, each after the values of the earlier ones were put in, up to the first fault
abbrev pub worths : Tables → List Sub → Known → Result Known Fault
worths tables [] known = Ok known
worths tables (sub ∷ rest) known = do
  worth ← worth_of_stream sub (denote tables (filled known sub.rel))
  worths tables rest (known ++ (sub.hole, worth) ∷ [])

-- the rows of a relation once the values are known, or the fault of a subquery
abbrev pub rows_with : Tables → Rel → Result Known Fault → Stream Row
rows_with tables rel (Ok known) = denote tables (filled known rel)
rows_with tables rel (Err fault) = ended (Some fault)

-- the rows of a plan: its subqueries, and then its main relation
unfoldable pub denote_plan : Tables → Holed → Stream Row
denote_plan tables plan = rows_with tables plan.typed.rel (worths tables plan.subs [])
