-- What is of a kind is of the same kind.
use Rattle.std.proofs.Common.{◌∙◌, sym, ap, subst}
use Rattle.std.specs.List.{All}
use Rattle.sub_types.specs.Kind.{IsKind}
use Rattle.sub_types.specs.Value.{InKind}
use Rattle.batch.specs.ColumnValues.{values_of, kind_storage}
use Rattle.batch_nodes.proofs.found.with_type.Goals as goal

pub invariant_of-result : goal.invariant_of-result
invariant_of-result c =
    let column = c.args.column in
    record {
      valid_kind = subst IsKind (sym c.requires) column.valid_kind;
      stored = column.stored ∙ ap kind_storage (sym c.requires);
      in_kind = subst (λ kind. All (InKind kind) (values_of column.values)) (sym c.requires) column.in_kind;
    }
