use Rattle.std.proofs.Common.{◌≡◌, ℕ, ◌<◌, false, length, get_or, take}
use Rattle.plan_verdict.specs.Aggregates.{is_referred_to}
use Rattle.plan_rules.proofs.places.is_each_referred_to.Given as goal

-- what the first so many sets refer to is marked
abbrev pub invariant-loop-set : goal.invariant-loop-set
invariant-loop-set l = record {
  len : length l.referred ≡ l.count;
  marked : (k : ℕ) → k < l.count → get_or l.referred k false ≡ is_referred_to (take l.set-index l.sets) k;
}
