use Rattle.std.proofs.Common.{◌≡◌, ◌≤◌, All, map, take, sum_by, vec_len}
use Rattle.std.specs.Vec.{vec_capacity}
use Rattle.world.specs.Reads.{IsFresh}
use Rattle.block_source.proofs.again.readers_again.Given as goal

abbrev pub invariant-loop-index : goal.invariant-loop-index
invariant-loop-index g l = record {
  same : map g.R.Reader.bytes l.seconds.items ≡ take l.index (map g.R.Reader.bytes l.fn.readers.items);
  fresh : All (λ second. IsFresh (g.R.Reader.faults second) (g.R.Reader.reads second)) l.seconds.items;
  bytes : map g.R.Reader.bytes l.readers.items ≡ map g.R.Reader.bytes l.fn.readers.items;
  reads : map g.R.Reader.reads l.readers.items ≡ map g.R.Reader.reads l.fn.readers.items;
  faults : sum_by g.R.Reader.faults l.fn.readers.items ≤ sum_by g.R.Reader.faults l.readers.items;
  len : vec_len l.readers ≡ vec_len l.fn.readers;
  filled : vec_len l.seconds ≡ l.index;
  room : l.count ≤ vec_capacity l.seconds;
}
