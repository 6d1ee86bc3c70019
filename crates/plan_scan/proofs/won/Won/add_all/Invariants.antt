use Rattle.std.proofs.Common.{◌≡◌, length}
use Rattle.pb_wire.specs.Payloads.{fields_of}
use Rattle.plan_scan.specs.Member.{is_member}
use Rattle.plan_scan.specs.Choice.{won_over}
use Rattle.plan_scan.proofs.won.Won.add_all.Given as goal

abbrev pub invariant-loop-found : goal.invariant-loop-found
invariant-loop-found l = won_over (is_member l.oneof) l.self (fields_of l.records) ≡ won_over (is_member l.oneof) l.fn.self (fields_of l.fn.piece)

abbrev pub decreases-loop-found : goal.decreases-loop-found
decreases-loop-found l = length l.records
