use Rattle.std.proofs.Common.{ap, arith, sym, ◌∙◌}
use Rattle.hand_off.specs.declared.rule.Passed.{Passed}
use Rattle.hand_off.proofs.Steps.{grows}
use Rattle.hand_off.proofs.hand.grown.Goals as goal

pub another-requires-clause-rule : goal.another-requires-clause-rule
another-requires-clause-rule g c =
    let share = ap (λ (v : Passed _). v.share) c.loop.invariant.all in
    let passes = ap (λ (v : Passed _). v.passes) c.loop.invariant.all in
    grows _ _ (omega (arith, share)) (share ∙ sym passes)
