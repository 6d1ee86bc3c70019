use Rattle.std.proofs.Common.{◌-◌, ◌≤◌, List, length}
use Rattle.pb_wire.specs.Payloads.{Field}
use Rattle.plan_scan.specs.Index.{AreIndexed}
use Rattle.plan_scan.proofs.index.no_lists.Given as goal

abbrev pub invariant-loop-alloc : goal.invariant-loop-alloc
invariant-loop-alloc l = record {
  few : length l.index.items ≤ 16;
  index : (all : List Field) → AreIndexed 0 l.index.items all all;
}

abbrev pub decreases-loop-alloc : goal.decreases-loop-alloc
decreases-loop-alloc l = 16 - length l.index.items
