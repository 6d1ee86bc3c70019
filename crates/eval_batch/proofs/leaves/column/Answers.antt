-- The column exists and has a value at each row.
use Rattle.std.proofs.Common.{arith}
use Rattle.batch_nodes.proofs.LeafLaws.{column_exists, column_until}
use Rattle.eval_batch.proofs.leaves.column.Goals as goal

pub column_at-requires-clause-there : goal.column_at-requires-clause-there
column_at-requires-clause-there c = omega (arith, column_exists c.args.batch.now c.args.e.now c.args.index c.args.ty c.requires.is c.requires.typed, c.args.batch.now.columns.ok)

pub returns : goal.returns
returns c =
    column_until c.args.batch.now c.args.e.now c.args.index c.args.ty c.requires.is c.args.rows.now c.in_ok-found.found c.requires.typed c.requires.exist c.in_ok-found.ensures.values c.in_ok-found.ensures.kind
