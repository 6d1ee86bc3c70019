use Rattle.std.proofs.Common.{ℕ, length, map, get_or, Option, None, sym, subst}
use Rattle.std.proofs.lemmas.List.{length-map}
use Rattle.sub_types.specs.Nullable.{bytes_value}
use Rattle.sub_types.specs.declared.fault.FaultKind.TheVariants.{TextTooLong}
use Rattle.sub_types.specs.declared.value.Value.TheVariants.{Null}
use Rattle.batch.specs.ColumnValues.{values_of}
use Rattle.batch.specs.declared.column_data.ColumnData.{ColumnData}
use Rattle.table_rows.specs.declared.first.RowFault.{RowFault}
use Rattle.table_rows.specs.First.{IsFirst, IsFirstPlace}
use Rattle.table_rows.specs.Read as spec
use Rattle.table_rows.proofs.PlaceLaws.{IsFirst-from_place, long_at, none_in_others}
use Rattle.table_rows.proofs.columns.length_fault.Goals as goal

pub returns-in-Bytes : goal.returns-in-Bytes
returns-in-Bytes c =
    let texts = c.in-Bytes.texts in
    let values = map bytes_value texts in
    let Of : ColumnData → Type 0 = λ column. IsFirst (λ k. spec.length_fault (get_or (values_of column) k Null)) (length (values_of column)) c.fault_at.result in
    let Found : Option RowFault → Type 0 = λ found. IsFirst (λ k. spec.length_fault (get_or values k Null)) (length values) found in
    let Long : ℕ → Type 0 = λ n. IsFirstPlace (λ k. spec.is_long (get_or texts k None)) n c.first_long.result in
    subst Of (sym c.in-Bytes.is) (subst Found (sym c.fault_at.ensures)
    (IsFirst-from_place (λ k. spec.length_fault (get_or values k Null)) (λ k. spec.is_long (get_or texts k None)) TextTooLong (length values) c.first_long.result (long_at texts)
    (subst Long (sym (length-map texts bytes_value)) c.first_long.ensures)))

pub returns-in_default : goal.returns-in_default
returns-in_default c = λ k below. none_in_others c.args.column.now c.in_default.not-Bytes k
