use Rattle.std.proofs.Common.{◌≡◌, ◌≤◌, ◌++◌, true, List, map, sum_by, vec_len}
use Rattle.block_source.specs.Absorbed.{AreJoined, IsRaised}
use Rattle.block_source.proofs.absorb.absorb_readers.Given as goal

abbrev pub invariant-loop-second : goal.invariant-loop-second
invariant-loop-second g l = record {
  rest : (rest : List g.row.R.Denot) × (l.fn.seconds.items ≡ l.seconds.items ++ rest);
  before : l.complete ≡ true → l.fn.complete ≡ true;
  reads : l.complete ≡ true → AreJoined (map g.R.Reader.reads l.fn.readers.items) (map g.R.Reader.reads l.fn.seconds.items) (map g.R.Reader.reads l.readers.items) (vec_len l.seconds);
  faults : IsRaised (sum_by g.R.Reader.faults l.fn.readers.items) (sum_by g.R.Reader.faults l.readers.items) (sum_by g.R.Reader.faults l.seconds.items) (sum_by g.R.Reader.faults l.fn.seconds.items);
  bytes : map g.R.Reader.bytes l.readers.items ≡ map g.R.Reader.bytes l.fn.readers.items;
  count : vec_len l.readers ≡ vec_len l.fn.readers;
  room : vec_len l.seconds ≤ vec_len l.readers;
}

abbrev pub decreases-loop-second : goal.decreases-loop-second
decreases-loop-second g l = vec_len l.seconds
