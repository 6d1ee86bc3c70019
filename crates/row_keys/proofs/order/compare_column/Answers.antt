use Rattle.std.proofs.Common.{◌≡◌, ◌∙◌, ap, sym, slice_index_or}
use Rattle.batch.specs.ColumnValues.{kind_storage}
use Rattle.sub_types.specs.declared.kind.Ty.{Ty}
use Rattle.row_keys.proofs.order.compare_column.Goals as goal

pub compare_directed-requires-clause-alike : goal.compare_directed-requires-clause-alike
compare_directed-requires-clause-alike c =
    let first = c.column_at.result.now in
    let second = c.column_at-2.result.now in
    let same : first.ty ≡ second.ty = c.column_at.ensures.ty second.ty ∙ ap (λ types. slice_index_or types c.args.key.now.column second.ty) c.requires.types ∙ sym (c.column_at-2.ensures.ty second.ty) in
    first.stored ∙ ap (λ (ty : Ty). kind_storage ty.kind) same ∙ sym second.stored
