use Rattle.std.proofs.Common.{◌≡◌, ℕ, ◌≤◌, ◌<◌, false, get_or, length}
use Rattle.plan_verdict.specs.Calls.{is_slash}
use Rattle.plan_rules.proofs.declared.behind_last_slash.Given as goal

-- no slash so far from the end
abbrev pub invariant-loop-at : goal.invariant-loop-at
invariant-loop-at l = (k : ℕ) → l.at ≤ k → k < length l.bytes → is_slash (get_or l.bytes k 0) ≡ false
