use Rattle.std.proofs.Common.{◌≡◌, ◌∙◌, ℕ, ◌+◌, ◌<◌, length, get_or, take, false, Option, ap, subst, arith}
use Rattle.std.specs.Option.{option_or}
use Rattle.std.proofs.lemmas.List.{get_or_default}
use Rattle.sub_types.specs.Rows.{across}
use Rattle.sub_types.specs.declared.fault.FaultKind.{FaultKind}
use Rattle.sub_types.specs.declared.kind.Kind.TheVariants as kinds
use Rattle.sub_types.specs.declared.kind.Ty.{Ty}
use Rattle.sub_types.specs.declared.value.Value.TheVariants.{Null}
use Rattle.batch.specs.declared.column.Column.{Column}
use Rattle.batch.specs.BatchRows.{columns_of}
use Rattle.batch.specs.Column.{column_values}
use Rattle.table_rows.specs.First.{IsFirst}
use Rattle.table_rows.specs.Read as spec
use Rattle.table_rows.proofs.FaultLaws.{rows-more, IsFirst-same}
use Rattle.table_rows.proofs.columns.first_fault.Goals as goal

pub loop-index-preserved : goal.loop-index-preserved
loop-index-preserved c =
    let batch = c.args.batch.now in
    let types = c.args.types.now in
    let i = c.loop-index.index in
    let column = c.index.result.now in
    let none : Ty = record { kind = kinds.Bool; nullable = false } in
    let ty = get_or types i none in
    let typed : i < length types = c.loop-index-test.true in
    let valued : i < length batch.columns.items = omega (arith, c.requires, batch.columns.ok.0) in
    let before : ℕ → Option FaultKind = λ k. spec.row_fault (take i types) (across Null (columns_of batch) k) in
    let here : ℕ → Option FaultKind = λ k. spec.value_fault ty (get_or (column_values column) k Null) in
    let long : length (column_values column) ≡ batch.rows = ap (λ (one : Column). length (column_values one)) c.index.ensures ∙ batch.sized i column valued in
    let Long : ℕ → Type 0 = λ n. IsFirst here n c.column_fault.result in
    IsFirst-same (λ k. option_or (before k) (here k)) (λ k. spec.row_fault (take (i + 1) types) (across Null (columns_of batch) k)) batch.rows c.earlier-first.result
    (λ k below. rows-more types batch.columns.items i k ty column typed valued (get_or_default types i none ty typed) c.index.ensures)
    (c.earlier-first.ensures before here batch.rows c.loop-index.invariant (subst Long long c.column_fault.ensures))
