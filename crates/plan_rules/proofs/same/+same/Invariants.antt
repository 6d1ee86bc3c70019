-- Each loop has found the first so many equal.
use Rattle.std.proofs.Common.{◌≡◌, ◌&&◌, true, take}
use Rattle.std.specs.Cmp.Lexicographic.{pointwise}
use Rattle.plan_verdict.specs.Same.{same_expr, same_value}
use Rattle.plan_rules.proofs.same.+same.Given as goal

abbrev pub invariant-are_same-loop-i : goal.invariant-are_same-loop-i
invariant-are_same-loop-i l = pointwise same_expr (take l.i l.a) (take l.i l.b) ≡ true

abbrev pub invariant-are_same_arms-loop-i : goal.invariant-are_same_arms-loop-i
invariant-are_same_arms-loop-i l = pointwise (λ arm other. same_expr arm.0 other.0 && same_expr arm.1 other.1) (take l.i l.a) (take l.i l.b) ≡ true

abbrev pub invariant-are_same_choices-loop-i : goal.invariant-are_same_choices-loop-i
invariant-are_same_choices-loop-i l = pointwise (λ choice other. same_value choice.0 other.0 && same_expr choice.1 other.1) (take l.i l.a) (take l.i l.b) ≡ true
