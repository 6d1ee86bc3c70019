use Rattle.std.proofs.Common.{◌≡◌, ◌+◌, ◌-◌, ◌*◌, ◌<◌, length}
use Rattle.pb_wire.specs.Seen.{scan_of}
use Rattle.plan_scan.specs.Flaw.{message_flaw}
use Rattle.plan_scan.proofs.FlawLaws.{flaw_left}
use Rattle.plan_scan.proofs.scan.+scan.Given as goal

abbrev pub decreases-first_flaw : goal.decreases-first_flaw
decreases-first_flaw l = 2 * l.levels

abbrev pub decreases-record_flaw : goal.decreases-record_flaw
decreases-record_flaw l = 2 * l.levels + 1

abbrev pub invariant-first_flaw-loop-next : goal.invariant-first_flaw-loop-next
invariant-first_flaw-loop-next l = record {
  some : 0 < l.levels;
  flaw : flaw_left (message_flaw (l.levels - 1)) l.shape l.start (scan_of l.fields) ≡ message_flaw l.levels l.shape l.place l.start l.bytes;
  within : l.fields.place + length l.fields.bytes ≡ length l.bytes;
}

abbrev pub decreases-first_flaw-loop-next : goal.decreases-first_flaw-loop-next
decreases-first_flaw-loop-next l = length l.fields.bytes
