use Rattle.std.proofs.Common.{◌≡◌, ◌∷◌, true, length}
use Rattle.std.specs.List.{concat, list_all}
use Rattle.pb_wire.specs.Payloads.{fields_of, is_whole}
use Rattle.plan_scan.specs.Member.{is_member}
use Rattle.plan_scan.specs.Choice.{won_over, nothing_won}
use Rattle.plan_scan.proofs.won.choose.Given as goal

abbrev pub invariant-loop-piece : goal.invariant-loop-piece
invariant-loop-piece l = record {
  whole : list_all is_whole l.later ≡ true;
  won : won_over (is_member l.oneof) l.won (fields_of (concat l.later)) ≡ won_over (is_member l.oneof) nothing_won (fields_of (concat (l.fn.first ∷ l.fn.later)));
}

abbrev pub decreases-loop-piece : goal.decreases-loop-piece
decreases-loop-piece l = length l.later
