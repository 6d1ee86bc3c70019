use Rattle.std.proofs.Common.{◌∙◌, sym, arith, length, eq-eqb}
use Rattle.std.proofs.Math.Seq.{take-length}
use Rattle.plan_verdict.specs.Calls.{is_colon}
use Rattle.plan_rules.proofs.TextLaws.{before_first-at}
use Rattle.plan_rules.proofs.declared.before_colon.Goals as goal

pub returns-then-byte-eq58 : goal.returns-then-byte-eq58
returns-then-byte-eq58 c = before_first-at is_colon c.args.bytes.now c.loop-at.at (omega arith) c.loop-at.invariant (λ below. eq-eqb _ 58 c.if-byte-eq58.true)

pub returns : goal.returns
returns c =
    sym (take-length c.args.bytes.now)
    ∙ before_first-at is_colon c.args.bytes.now (length c.args.bytes.now) (omega arith) (λ k below. c.loop-at.invariant k (omega arith)) (λ below. absurd (omega arith))
