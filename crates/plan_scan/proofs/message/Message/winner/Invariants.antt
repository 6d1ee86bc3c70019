use Rattle.std.proofs.Common.{◌≡◌, length, None, true}
use Rattle.pb_wire.specs.Payloads.{fields_of, chosen_member}
use Rattle.plan_scan.specs.Member.{is_member}
use Rattle.plan_scan.proofs.MemberLaws.{winner_from}
use Rattle.plan_scan.proofs.message.Message.winner.Given as goal

abbrev pub invariant-loop-found : goal.invariant-loop-found
invariant-loop-found l = record {
  behind : l.last ≡ None → l.behind ≡ l.self.bytes;
  whole : l.is_whole ≡ true → l.since ≡ l.self.bytes;
  won : winner_from (is_member l.oneof) l.last (fields_of l.since) (fields_of l.behind) (fields_of l.records) ≡ chosen_member (is_member l.oneof) (fields_of l.self.bytes);
}

abbrev pub decreases-loop-found : goal.decreases-loop-found
decreases-loop-found l = length l.records
