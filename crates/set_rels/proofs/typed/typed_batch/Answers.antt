use Rattle.set_rels.proofs.TypedLaws.{sized_again}
use Rattle.set_rels.proofs.typed.typed_batch.Goals as goal

pub invariant_of-result : goal.invariant_of-result
invariant_of-result c = record { sized = sized_again c.args.batch.rows c.args.batch.columns.items c.in_ok-typed_columns.field-0.items c.in_ok-typed_columns.ensures.values c.args.batch.sized }
