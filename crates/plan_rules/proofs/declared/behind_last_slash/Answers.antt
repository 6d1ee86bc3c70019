use Rattle.std.proofs.Common.{◌-◌, arith, eq-eqb}
use Rattle.plan_verdict.specs.Calls.{is_slash}
use Rattle.plan_rules.proofs.TextLaws.{after_last-at, after_last-behind}
use Rattle.plan_rules.proofs.declared.behind_last_slash.Goals as goal

pub returns-then-bytes-at-eq47 : goal.returns-then-bytes-at-eq47
returns-then-bytes-at-eq47 c =
    after_last-behind is_slash c.args.bytes.now (c.loop-at.at - 1) (omega arith) (λ k above below. c.loop-at.invariant k (omega arith) below) (eq-eqb _ 47 c.if-bytes-at-eq47.true)

pub returns : goal.returns
returns c = after_last-at is_slash c.args.bytes.now 0 (omega arith) (λ k above below. c.loop-at.invariant k (omega arith) below) (λ some. absurd (omega arith))
