-- Truth values are of the kind of truth values.
use Rattle.std.proofs.Common.{sym, ap, subst, map}
use Rattle.std.specs.List.{All}
use Rattle.sub_types.specs.Kind.{IsKind}
use Rattle.sub_types.specs.Nullable.{bool_value}
use Rattle.sub_types.specs.Value.{InKind}
use Rattle.batch.specs.ColumnValues.{kind_storage}
use Rattle.batch.proofs.TruthLaws.{truths_in_kind}
use Rattle.batch.proofs.column.Column.of_truths.Goals as goal

pub invariant_of-result : goal.invariant_of-result
invariant_of-result c =
    record {
      valid_kind = subst IsKind (sym c.requires) tt;
      stored = ap kind_storage (sym c.requires);
      in_kind = subst (λ kind. All (InKind kind) (map bool_value c.args.truths)) (sym c.requires) (truths_in_kind c.args.truths);
    }
