use Rattle.std.proofs.Common.{◌≡◌, ◌++◌, length}
use Rattle.pb_wire.specs.Payloads.{fields_of, repeated_numbers}
use Rattle.plan_scan.proofs.message.Message.numbers.Given as goal

abbrev pub invariant-loop-found : goal.invariant-loop-found
invariant-loop-found l = l.numbers.items ++ repeated_numbers l.number (fields_of l.records) ≡ repeated_numbers l.number (fields_of l.self.bytes)

abbrev pub decreases-loop-found : goal.decreases-loop-found
decreases-loop-found l = length l.records
