use Rattle.std.proofs.Common.{◌≡◌, ℕ, ◌<◌, false, get_or}
use Rattle.plan_verdict.specs.Calls.{is_colon}
use Rattle.plan_rules.proofs.declared.before_colon.Given as goal

-- no colon so far
abbrev pub invariant-loop-at : goal.invariant-loop-at
invariant-loop-at l = (k : ℕ) → k < l.at → is_colon (get_or l.bytes k 0) ≡ false
