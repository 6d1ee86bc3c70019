use Rattle.row_ops.proofs.KeptLaws.{kept_sized, kept_stream, kept_types}
use Rattle.row_ops.proofs.keeping.keep.Goals as goal

pub invariant_of-result : goal.invariant_of-result
invariant_of-result c = record { sized = kept_sized c.args.input.batch.rows c.args.input.batch.columns.items c.args.columns.now c.in_ok-columns.columns.items c.in_ok-columns.ensures c.requires.exist c.args.input.batch.sized }

pub returns-clause-stream : goal.returns-clause-stream
returns-clause-stream c =
    kept_stream c.args.input.end c.args.input.batch.rows c.args.input.batch.columns.items c.args.columns.now c.in_ok-columns.columns.items c.in_ok-columns.ensures

pub returns-clause-types : goal.returns-clause-types
returns-clause-types c = kept_types c.args.input.batch.columns.items c.args.columns.now c.in_ok-columns.columns.items c.in_ok-columns.ensures c.requires.exist
