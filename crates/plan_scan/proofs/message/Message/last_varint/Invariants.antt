use Rattle.std.proofs.Common.{◌≡◌, length}
use Rattle.std.specs.List.{last_or, filter_map}
use Rattle.pb_wire.specs.Payloads.{fields_of, varint_in, last_varint}
use Rattle.plan_scan.proofs.message.Message.last_varint.Given as goal

abbrev pub invariant-loop-found : goal.invariant-loop-found
invariant-loop-found l = last_or l.last (filter_map (varint_in l.number) (fields_of l.records)) ≡ last_varint l.number (fields_of l.self.bytes)

abbrev pub decreases-loop-found : goal.decreases-loop-found
decreases-loop-found l = length l.records
