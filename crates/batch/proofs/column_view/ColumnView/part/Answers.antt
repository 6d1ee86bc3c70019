-- What holds of the values lent holds of those of a part.
use Rattle.std.proofs.Common.{◌∙◌}
use Rattle.std.specs.List.{slice_range}
use Rattle.std.proofs.lemmas.List.Elements.{All-same}
use Rattle.sub_types.specs.Value.{InKind}
use Rattle.batch.specs.Lent.{lent}
use Rattle.batch.proofs.ValueLaws.{All-part}
use Rattle.batch.proofs.column_view.ColumnView.part.Goals as goal

pub invariant_of-result : goal.invariant_of-result
invariant_of-result c =
    let column = c.args.self.now in
    let values = lent column.values in
    let kind = InKind column.ty.kind in
    record {
      valid_kind = column.valid_kind;
      stored = c.part.ensures.storage ∙ column.stored;
      in_kind = All-same kind (lent c.part.result) (slice_range values c.args.from c.args.to) c.part.ensures.values (All-part kind values c.args.from c.args.to column.in_kind);
    }
