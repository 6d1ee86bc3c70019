use Rattle.std.proofs.Common.{◌≡◌, ◌+◌, ◌++◌, ◌≤◌, None, vec_len}
use Rattle.std.specs.List.{flat_map}
use Rattle.arrow_read.specs.Told.{IfTold}
use Rattle.batch.specs.BatchRows.{rows_of}
use Rattle.table_rows.specs.Blocks.{AddsBatches, file_stream}
use Rattle.table_rows.proofs.file.read_file.Given as goal

abbrev pub invariant-loop-block : goal.invariant-loop-block
invariant-loop-block g l = record {
  rows : IfTold (g.R.Reader.bytes l.initial.reader) (λ bytes.
      flat_map rows_of l.batches.items ≡ flat_map rows_of l.initial.batches.items ++ (file_stream l.read.relation l.file l.read.types.now bytes l.block l.wanted).rows);
  end : IfTold (g.R.Reader.bytes l.initial.reader) (λ bytes. (file_stream l.read.relation l.file l.read.types.now bytes l.block l.wanted).end ≡ None);
  batches : AddsBatches l.read.types.now l.initial.batches.items l.batches.items;
  count : vec_len l.batches ≡ vec_len l.initial.batches + l.block;
  faults : g.R.Reader.faults l.initial.reader ≤ g.R.Reader.faults l.reader;
  bytes : g.R.Reader.bytes l.reader ≡ g.R.Reader.bytes l.initial.reader;
}
