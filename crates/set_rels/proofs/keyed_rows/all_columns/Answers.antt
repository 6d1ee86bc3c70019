use Rattle.set_rels.proofs.KeyedLaws.{columns_more}
use Rattle.set_rels.proofs.keyed_rows.all_columns.Goals as goal

pub loop-column-preserved : goal.loop-column-preserved
loop-column-preserved c = columns_more c.loop-column.column c.loop-column.columns.items c.push.new.self.items c.in_ok-push.ensures.items c.loop-column.invariant
