use Rattle.std.proofs.Common.{◌∙◌, ◌-◌, sym, ap, arith}
use Rattle.pb_wire.specs.Seen.{Rest, scan_of}
use Rattle.plan_scan.specs.Flaw.{message_flaw}
use Rattle.plan_scan.proofs.FlawLaws.{flaw_left, too_deep, flaw_begun}
use Rattle.plan_scan.proofs.scan.+scan.Goals as goal

pub first_flaw-returns-then-levels-eq0 : goal.first_flaw-returns-then-levels-eq0
first_flaw-returns-then-levels-eq0 t c =
    sym (ap (λ n. message_flaw n c.args.shape c.args.place c.args.start c.args.bytes.now) c.if-levels-eq0.true ∙ too_deep c.args.shape c.args.place c.args.start c.args.bytes.now)

pub first_flaw-loop-next-init : goal.first_flaw-loop-next-init
first_flaw-loop-next-init t c = record {
  some = omega arith;
  flaw = ap (λ (rest : Rest). flaw_left (message_flaw (c.args.levels - 1)) c.args.shape c.args.start (scan_of rest)) c.new-fields.ensures
      ∙ flaw_begun c.args.levels c.args.shape c.args.place c.args.start c.args.bytes.now (omega arith);
  within = rw c.new-fields.ensures (omega arith);
}
