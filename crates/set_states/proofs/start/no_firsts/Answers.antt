use Rattle.std.proofs.Common.{◌≡◌, ◌∙◌, ◌+◌, ◌∷◌, ℕ, List, [], length, ap, subst, arith, length-append}
use Rattle.plan_denote.specs.Computed.{Row}
use Rattle.group_firsts.specs.Firsts.{AreFirsts}
use Rattle.set_states.specs.States.{AreNone}
use Rattle.set_states.proofs.PushLaws.{each_more}
use Rattle.set_states.proofs.start.no_firsts.Goals as goal

pub loop-init : goal.loop-init
loop-init c = record { many = ap length c.new-firsts.ensures.items; each = λ i lt. absurd (omega (arith, lt)) }

pub loop-preserved : goal.loop-preserved
loop-preserved c =
    let l = c.loop in
    let none = c.new-none.result in
    record {
      many = ap length c.in_ok-push.ensures.items ∙ length-append l.firsts.items (none ∷ []) ∙ ap (λ n. n + 1) l.invariant.many;
      each = λ i lt one is.
          each_more (λ j two. (keys : List Row) (place : ℕ) → AreFirsts keys [] place two) l.firsts.items c.push.new.self.items none l.counter c.in_ok-push.ensures.items l.invariant.many
          (λ j two below f. l.invariant.each j below two f) c.new-none.ensures i one lt is;
    }

pub returns : goal.returns
returns c =
    let done : c.loop.counter ≡ c.args.measures = omega (arith, c.loop-test.false, c.loop.auto.counter-end) in
    subst (λ n. AreNone n c.loop.firsts.items) done c.loop.invariant
