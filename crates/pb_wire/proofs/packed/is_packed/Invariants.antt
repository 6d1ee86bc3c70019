use Rattle.std.proofs.Common.{◌≡◌, length, is_some}
use Rattle.pb_wire.specs.Payloads.{packed_numbers}
use Rattle.pb_wire.proofs.packed.is_packed.Given as goal

abbrev pub invariant-loop-rest : goal.invariant-loop-rest
invariant-loop-rest l = is_some (packed_numbers l.rest) ≡ is_some (packed_numbers l.bytes)

abbrev pub decreases-loop-rest : goal.decreases-loop-rest
decreases-loop-rest l = length l.rest
