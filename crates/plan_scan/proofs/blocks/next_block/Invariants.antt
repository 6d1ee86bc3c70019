use Rattle.std.proofs.Common.{◌≡◌, length}
use Rattle.pb_wire.specs.Payloads.{fields_of, blocks}
use Rattle.plan_scan.proofs.blocks.next_block.Given as goal

abbrev pub invariant-loop-found : goal.invariant-loop-found
invariant-loop-found l = blocks l.number (fields_of l.records) ≡ blocks l.number (fields_of l.fn.records)

abbrev pub decreases-loop-found : goal.decreases-loop-found
decreases-loop-found l = length l.records
