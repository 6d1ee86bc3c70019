use Rattle.std.proofs.Common.{◌≡◌, length}
use Rattle.pb_wire.specs.Payloads.{fields_of}
use Rattle.plan_scan.specs.Index.{AreIndexed}
use Rattle.plan_scan.proofs.index.index_of.Given as goal

abbrev pub invariant-loop-found : goal.invariant-loop-found
invariant-loop-found l = record {
  lists : length l.index.items ≡ 16;
  index : AreIndexed 0 l.index.items (fields_of l.records) (fields_of l.fn.records);
}

abbrev pub decreases-loop-found : goal.decreases-loop-found
decreases-loop-found l = length l.records
