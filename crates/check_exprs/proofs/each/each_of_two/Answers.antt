use Rattle.std.proofs.Common.{⊎_elim}
use Rattle.check_exprs.proofs.OrderLaws.{nothing_left, no_firsts, no_seconds, pair_checked}
use Rattle.check_exprs.proofs.each.each_of_two.Goals as goal

pub loop-first-preserved : goal.loop-first-preserved
loop-first-preserved g c f h =
    let old = c.loop-first.first-iterator in
    let new = c.next.new.self in
    pair_checked f c.in-Some.first.now c.in-Some.second.now old.a.rest.now new.a.rest.now old.b.rest.now new.b.rest.now c.loop-first.checked c.push.new.self c.in_ok-value.value c.loop-first.progress c.in_ok-value.after _
    c.in-Some.ensures.steps.0 c.in-Some.ensures.steps.1 (h _ _ _ _ c.in_ok-value.ensures) c.in_ok-push.ensures.ok (c.loop-first.invariant f h)

pub returns : goal.returns
returns g c f h =
    let firsts = c.loop-first.first-iterator.a.rest.now in
    let seconds = c.loop-first.first-iterator.b.rest.now in
    nothing_left (λ pair. f pair.0 pair.1) firsts seconds _ _ _ (⊎_elim (λ e. no_firsts firsts seconds e.1.0) (λ e. no_seconds firsts seconds e.1.0) c.in-None.ensures.steps) (c.loop-first.invariant f h)
