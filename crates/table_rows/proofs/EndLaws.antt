-- What ends the rows of a block.
use Rattle.std.proofs.Common.{ℕ, List, [], ◌∷◌, Bool, true, false, cond, Option, Some, None, IfSome, refl}
use Rattle.std.specs.Option.{option_or}
use Rattle.sub_types.specs.Stream.{Stream, rows_alone, ended, followed_by, stream_of, each}
use Rattle.sub_types.specs.declared.fault.Fault.{Fault}
use Rattle.sub_types.specs.declared.fault.FaultKind.{FaultKind}
use Rattle.sub_types.specs.declared.fault.FaultKind.TheVariants.{NullInRequired, TextTooLong}
use Rattle.sub_types.specs.declared.kind.Ty.{Ty}
use Rattle.sub_types.specs.declared.value.Value.{Value}
use Rattle.sub_types.specs.declared.value.Value.TheVariants as values
use Rattle.table_rows.specs.Read.{value_fault, row_fault, read_as, read_row}
use Rattle.table_rows.specs.Blocks.{IsBlockFault, IsReadFault}
use Rattle.table_rows.proofs.EachLaws.{read_each}

or_kind : (P : FaultKind → Type 0) (a b : Option FaultKind) → IfSome a P → IfSome b P → IfSome (option_or a b) P
or_kind P None b first second = second
or_kind P (Some kind) b first second = first

null_kind : (file block : ℕ) (nullable : Bool) → IfSome (option_or (cond nullable None (Some NullInRequired)) None) (IsBlockFault file block)
null_kind file block true = tt
null_kind file block false = tt

long_kind : (file block : ℕ) (long : Bool) → IfSome (cond long (Some TextTooLong) None) (IsBlockFault file block)
long_kind file block true = tt
long_kind file block false = tt

value_kind : (file block : ℕ) (ty : Ty) (value : Value) → IfSome (value_fault ty value) (IsBlockFault file block)
value_kind file block ty values.Null = null_kind file block ty.nullable
value_kind file block ty (values.Bool b) = tt
value_kind file block ty (values.Int n) = tt
value_kind file block ty (values.Dec n) = tt
value_kind file block ty (values.Bytes bytes) = long_kind file block _

row_kind : (file block : ℕ) (types : List Ty) (row : List Value) → IfSome (row_fault types row) (IsBlockFault file block)
row_kind file block [] [] = tt
row_kind file block [] (value ∷ row) = tt
row_kind file block (ty ∷ types) [] = tt
row_kind file block (ty ∷ types) (value ∷ row) = or_kind (IsBlockFault file block) (value_fault ty value) (row_fault types row) (value_kind file block ty value) (row_kind file block types row)

row_end : (relation file block : ℕ) (row : List Value) (fault : Option FaultKind) (rest : Stream (List Value)) → IfSome fault (IsBlockFault file block)
    → IfSome rest.end (IsReadFault relation file block) → IfSome (followed_by (stream_of (read_as relation row fault)) rest).end (IsReadFault relation file block)
row_end relation file block row None rest kind later = later
row_end relation file block row (Some one) rest kind later = record { of_relation = refl; of_block = kind }

rows_end : (relation file block : ℕ) (types : List Ty) (rows : List (List Value)) → IfSome (read_each relation types rows).end (IsReadFault relation file block)
rows_end relation file block types [] = tt
rows_end relation file block types (row ∷ rows) =
    row_end relation file block row (row_fault types row) (read_each relation types rows) (row_kind file block types row) (rows_end relation file block types rows)

closed : (P : Fault → Type 0) (rows : List (List Value)) (end : Option Fault) → IfSome end P → IfSome (followed_by (record { rows = rows; end = end }) (ended None)).end P
closed P rows None h = tt
closed P rows (Some fault) h = h

-- rows end in a fault of their block, if at all
pub each_ends : (relation file block : ℕ) (types : List Ty) (rows : List (List Value)) → IfSome (each (read_row relation types) (rows_alone rows)).end (IsReadFault relation file block)
each_ends relation file block types rows =
    let read = read_each relation types rows in
    closed (IsReadFault relation file block) read.rows read.end (rows_end relation file block types rows)
