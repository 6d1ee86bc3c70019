use Rattle.std.proofs.Common.{refl}
use Rattle.batch.specs.BatchRows.{rows_of, types_of}
use Rattle.pipe_parts.proofs.RunLaws.{columns_of_batch, run_is}
use Rattle.pipe_parts.proofs.sorting.run_of.Goals as goal

pub sort_run-requires : goal.sort_run-requires
sort_run-requires c = record { columns = columns_of_batch c.args.keys.now (types_of c.args.piece.batch) c.args.piece.batch c.requires refl }

pub returns : goal.returns
returns c = record {
  rows = run_is c.args.keys.now (rows_of c.in_ok-sorted.sorted) (rows_of c.args.piece.batch) c.in_ok-sorted.ensures.rows;
  types = c.in_ok-sorted.ensures.types;
  end = refl;
}
