use Rattle.std.proofs.Common.{◌≡◌, map, take}
use Rattle.pb_wire.specs.Payloads.{as_int32}
use Rattle.plan_scan.proofs.message.Message.int32s.Given as goal

abbrev pub invariant-loop-value : goal.invariant-loop-value
invariant-loop-value l = l.numbers.items ≡ map as_int32 (take l.value-index l.value-items)
