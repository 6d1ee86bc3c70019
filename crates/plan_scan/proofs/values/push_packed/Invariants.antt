use Rattle.std.proofs.Common.{◌≡◌, ◌++◌, [], length, unwrap_or}
use Rattle.pb_wire.specs.Payloads.{packed_numbers}
use Rattle.plan_scan.proofs.values.push_packed.Given as goal

abbrev pub invariant-loop-value : goal.invariant-loop-value
invariant-loop-value l = l.numbers.items ++ l.packed ≡ l.initial.numbers.items ++ unwrap_or (packed_numbers l.bytes) []

abbrev pub decreases-loop-value : goal.decreases-loop-value
decreases-loop-value l = length l.packed
