use Rattle.std.proofs.Common.{◌≡◌, ◌∙◌, ℕ, length, get_or, Option, false, not, sym, ap, subst}
use Rattle.std.proofs.lemmas.List.{length-map}
use Rattle.sub_types.specs.declared.fault.FaultKind.TheVariants.{NullInRequired}
use Rattle.sub_types.specs.declared.value.Value.TheVariants.{Null}
use Rattle.batch.specs.ColumnValues.{values_of}
use Rattle.table_rows.specs.declared.first.RowFault.{RowFault}
use Rattle.table_rows.specs.First.{IsFirst, IsFirstPlace}
use Rattle.table_rows.specs.Read as spec
use Rattle.table_rows.proofs.PlaceLaws.{IsFirst-from_place, nulls_at}
use Rattle.table_rows.proofs.columns.null_fault.Goals as goal

pub returns : goal.returns
returns c =
    let column = values_of c.args.column.now in
    let valid = c.validity.result.now in
    let long : length valid ≡ length column = ap length c.validity.ensures ∙ length-map column spec.is_there in
    let Found : Option RowFault → Type 0 = λ found. IsFirst (λ k. spec.null_fault c.args.ty (get_or column k Null)) (length column) found in
    let Missing : ℕ → Type 0 = λ n. IsFirstPlace (λ k. not (get_or valid k false)) n c.first_false.result in
    subst Found (sym c.fault_at.ensures)
    (IsFirst-from_place (λ k. spec.null_fault c.args.ty (get_or column k Null)) (λ k. not (get_or valid k false)) NullInRequired (length column) c.first_false.result
    (nulls_at c.args.ty column valid c.if-ty.false c.validity.ensures) (subst Missing long c.first_false.ensures))
