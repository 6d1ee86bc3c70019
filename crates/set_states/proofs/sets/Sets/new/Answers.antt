use Rattle.std.proofs.Common.{◌≡◌, ◌∙◌, ◌+◌, ◌∷◌, ℕ, List, [], length, get_or, refl, ap, sym, arith, length-append}
use Rattle.set_states.specs.States.{IsKnown}
use Rattle.set_states.proofs.PushLaws.{each_more}
use Rattle.set_states.proofs.sets.Sets.new.Goals as goal

pub loop-init : goal.loop-init
loop-init c = record { many = ap length c.new-all.ensures.items; each = λ i one lt. absurd (omega (arith, lt)) }

pub loop-preserved : goal.loop-preserved
loop-preserved c =
    let l = c.loop in
    record {
      many = ap length c.in_ok-push.ensures.items ∙ length-append l.all.items (c.in_ok-one.one ∷ []) ∙ ap (λ n. n + 1) l.invariant.many;
      each = each_more (λ i two. (set : List ℕ) → IsKnown c.args.measures.now set [] two) l.all.items c.push.new.self.items c.in_ok-one.one l.counter c.in_ok-push.ensures.items l.invariant.many
          (λ i two lt f. l.invariant.each i two lt f) c.in_ok-one.ensures;
    }

pub returns : goal.returns
returns c =
    let l = c.loop in
    let done : l.counter ≡ c.args.sets = omega (arith, c.loop-test.false, c.loop.auto.counter-end) in
    λ width places many.
    record {
      rows = refl;
      few = omega arith;
      wide = tt;
      many = l.invariant.many ∙ done ∙ sym many;
      each = λ i lt one f. l.invariant.each i one (omega (arith, lt, done, many)) f (get_or places i []);
    }
