use Rattle.std.proofs.Common.{◌≡◌, ◌≤◌, All, map, sum_by, vec_len}
use Rattle.std.specs.Vec.{vec_capacity}
use Rattle.block_source.specs.Made.{IsUnused}
use Rattle.block_source.proofs.again.labours_again.Given as goal

abbrev pub invariant-loop : goal.invariant-loop
invariant-loop g l = record {
  count : vec_len l.labours ≡ l.counter;
  room : l.workers ≤ vec_capacity l.labours;
  unused : All (λ o. IsUnused l.table.files.items (map g.R.Reader.bytes l.fn.readers.items)
      o.source.table.now.files.items (map g.R.Reader.bytes o.source.readers.items) o.source.loaded.items (sum_by g.R.Reader.faults o.source.readers.items) o.outs.items) l.labours.items;
  work : All (λ o. o.work ≡ l.work) l.labours.items;
  bytes : map g.R.Reader.bytes l.readers.items ≡ map g.R.Reader.bytes l.fn.readers.items;
  reads : map g.R.Reader.reads l.readers.items ≡ map g.R.Reader.reads l.fn.readers.items;
  faults : sum_by g.R.Reader.faults l.fn.readers.items ≤ sum_by g.R.Reader.faults l.readers.items;
  len : vec_len l.readers ≡ vec_len l.fn.readers;
}
