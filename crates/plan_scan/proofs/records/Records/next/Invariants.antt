use Rattle.std.proofs.Common.{◌≡◌, ◌≤◌, ◌-◌, length}
use Rattle.std.specs.List.{concat}
use Rattle.plan_scan.specs.Pieces.{left_pieces, AreWhole}
use Rattle.plan_scan.proofs.records.Records.next.Given as goal

abbrev pub invariant-loop-found : goal.invariant-loop-found
invariant-loop-found l = record {
  within : l.self-inside.index ≤ length l.self-inside.later.now;
  whole : AreWhole (left_pieces l.self-inside.rest.now l.self-inside.later.now l.self-inside.index);
  same : concat (left_pieces l.self-inside.rest.now l.self-inside.later.now l.self-inside.index) ≡ l.fn.self;
}

abbrev pub decreases-loop-found : goal.decreases-loop-found
decreases-loop-found l = length l.self-inside.later.now - l.self-inside.index
