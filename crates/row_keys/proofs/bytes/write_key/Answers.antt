use Rattle.std.proofs.Common.{◌∙◌, ◌++◌, ◌≤◌, All, length, ap, arith, sym, subst, slice_index_or}
use Rattle.std.proofs.lemmas.List.{take_all}
use Rattle.sub_types.specs.declared.value.Value.TheVariants.{Null}
use Rattle.row_keys.specs.Keys.{key_of}
use Rattle.row_keys.specs.KeyBytes.{value_bytes, bytes_of_key, IsHeld}
use Rattle.row_keys.proofs.KeyLaws.{same_keys}
use Rattle.row_keys.proofs.WrittenLaws.{written_more}
use Rattle.row_keys.proofs.bytes.write_key.Goals as goal

pub loop-column-preserved : goal.loop-column-preserved
loop-column-preserved c =
    let written = c.in_ok-push_value.ensures.bytes ∙ ap (λ xs. c.loop-column.bytes.items ++ value_bytes (slice_index_or xs c.args.row Null)) c.column_at.ensures.values in
    let held = subst (λ xs. IsHeld (slice_index_or xs c.args.row Null)) c.column_at.ensures.values c.in_ok-push_value.ensures.held in
    written_more c.args.columns.now c.args.batch.now c.args.row c.loop-column.column-index c.loop-column.bytes.items c.push_value.new.bytes.items c.loop-column-test.true written held c.loop-column.invariant

pub returns-clause-equal : goal.returns-clause-equal
returns-clause-equal c =
    let done : length c.args.columns.now ≤ c.loop-column.column-index = omega arith in
    let all = take_all c.loop-column.column-index c.args.columns.now done in
    let written = c.loop-column.invariant.0 ∙ ap (λ columns. bytes_of_key (key_of columns c.args.batch.now c.args.row)) all in
    let held = subst (λ columns. All IsHeld (key_of columns c.args.batch.now c.args.row)) all c.loop-column.invariant.1 in
    λ key held_key e. same_keys (key_of c.args.columns.now c.args.batch.now c.args.row) key held held_key (sym written ∙ e)
