use Rattle.std.proofs.Common.{◌≡◌, ℕ, ◌<◌, ◌||◌, ◌==◌, false, length, get_or, take}
use Rattle.std.specs.List.{list_any}
use Rattle.plan_rules.proofs.places.mark.Given as goal

-- the first so many places are marked
abbrev pub invariant-loop-one : goal.invariant-loop-one
invariant-loop-one l = record {
  len : length l.marks ≡ length l.initial.marks;
  marked : (k : ℕ) → k < length l.initial.marks → get_or l.marks k false ≡ (get_or l.initial.marks k false || list_any (λ one. one == k) (take l.one-index l.set));
}
