-- What holds of the values lent holds of those at the places.
use Rattle.std.proofs.Common.{◌∙◌}
use Rattle.std.proofs.lemmas.List.Elements.{All-same}
use Rattle.sub_types.specs.Value.{InKind}
use Rattle.sub_types.specs.declared.value.Value.TheVariants.{Null}
use Rattle.sub_types.specs.Rows.{picked}
use Rattle.batch.specs.ColumnValues.{values_of}
use Rattle.batch.specs.Lent.{lent}
use Rattle.batch.proofs.ValueLaws.{All-picked}
use Rattle.batch.proofs.column_view.ColumnView.gather.Goals as goal

pub invariant_of-result : goal.invariant_of-result
invariant_of-result c =
    let column = c.args.self.now in
    let values = lent column.values in
    let kind = InKind column.ty.kind in
    record {
      valid_kind = column.valid_kind;
      stored = c.in_ok-gather.ensures.storage ∙ column.stored;
      in_kind = All-same kind (values_of c.in_ok-gather.field-0) (picked Null c.args.at.now values) c.in_ok-gather.ensures.values (All-picked kind Null c.args.at.now values column.in_kind c.requires);
    }
