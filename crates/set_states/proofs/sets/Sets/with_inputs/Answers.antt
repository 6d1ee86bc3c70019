use Rattle.std.proofs.Common.{◌≡◌, ◌∙◌, ◌+◌, ◌<◌, ◌++◌, ◌∷◌, ℕ, List, [], length, map, drop, get_or, ap, sym, subst, arith, length-append, Vec, Global}
use Rattle.std.specs.Vec.Iter.{into_iter_items}
use Rattle.std.proofs.lemmas.List.{length-map}
use Rattle.denote_typed.proofs.RowsLaws.{appended}
use Rattle.plan_denote.specs.Aggregate.{Entry}
use Rattle.set_inputs.proofs.KeyLaws.{rows_many, all_wide}
use Rattle.set_states.specs.States.{IsKnown}
use Rattle.set_states.proofs.PushLaws.{each_more, first_left, rest_left}
use Rattle.set_states.proofs.SetLaws.{set_at}
use Rattle.set_states.proofs.sets.Sets.with_inputs.Goals as goal

pub loop-one-init : goal.loop-one-init
loop-one-init c =
    let gives = c.into_iter-one-iterator.ensures.into_iter_gives.0 in
    record {
      left = gives;
      all = omega (arith, ap length gives);
      within = c.requires.known.1.many ∙ length-map c.args.sets.now (λ (set : Vec ℕ Global). set.items);
      many = ap length c.new-all.ensures.items;
      each = λ entries later known are i one lt. absurd (omega (arith, lt));
    }

pub with_inputs-requires-clause-known : goal.with_inputs-requires-clause-known
with_inputs-requires-clause-known c =
    let l = c.loop-one in
    let olds = c.args.self.sets.items in
    let one = c.in-Some.one in
    let rest = into_iter_items c.next.new.self in
    let step = c.in-Some.ensures.steps.0 in
    let long : length (into_iter_items l.one-iterator) ≡ length (one ∷ rest) = ap length step in
    let within : l.place < length olds = omega (arith, l.invariant.all, long) in
    let is : one ≡ get_or olds l.place one = first_left olds rest l.place one within (sym step ∙ l.invariant.left) in
    let known = c.requires.known.1 in
    let there : l.place < length c.args.sets.now = omega (arith, within, known.many, length-map c.args.sets.now (λ (set : Vec ℕ Global). set.items)) in
    let own = known.each l.place (omega (arith, within, known.many)) one is in (
      c.requires.known.0,
      subst (λ (set : List ℕ). IsKnown c.args.measures.now set c.requires.known.0 one) (set_at c.args.sets.now l.place c.index-sets-place.result there c.index-sets-place.is ∙ sym c.as_slice.ensures.value) own,
      omega (arith, known.rows, c.requires.few),
    )

pub loop-one-preserved : goal.loop-one-preserved
loop-one-preserved c =
    let l = c.loop-one in
    let before = l.invariant in
    let step = c.in-Some.ensures.steps.0 in
    let one = c.in-Some.one in
    let rest = into_iter_items c.next.new.self in
    let olds = c.args.self.sets.items in
    let long : length (into_iter_items l.one-iterator) ≡ length (one ∷ rest) = ap length step in
    let within : l.place < length olds = omega (arith, before.all, long) in
    let at : one ∷ rest ≡ drop l.place olds = sym step ∙ before.left in
    let is : one ≡ get_or olds l.place one = first_left olds rest l.place one within at in
    record {
      left = rest_left olds rest l.place one within at;
      all = omega (arith, before.all, long);
      within = before.within;
      many = ap length c.in_ok-push.ensures.items ∙ length-append l.all.items (c.in_ok-more.more ∷ []) ∙ ap (λ n. n + 1) before.many;
      each = λ entries later known are.
          let there : l.place < length c.args.sets.now = omega (arith, within, known.many, length-map c.args.sets.now (λ (set : Vec ℕ Global). set.items)) in
          let same : get_or (map (λ (set : Vec ℕ Global). set.items) c.args.sets.now) l.place [] ≡ c.as_slice.result.now = set_at c.args.sets.now l.place c.index-sets-place.result there c.index-sets-place.is ∙ sym c.as_slice.ensures.value in
          let own = known.each l.place (omega (arith, within, known.many)) one is in
          each_more (λ i two. IsKnown c.args.measures.now (get_or (map (λ (set : Vec ℕ Global). set.items) c.args.sets.now) i []) (entries ++ later) two)
          l.all.items c.push.new.self.items c.in_ok-more.more l.place c.in_ok-push.ensures.items before.many
          (λ i two lt f. before.each entries later known are i two lt f)
          (subst (λ (set : List ℕ). IsKnown c.args.measures.now set (entries ++ later) c.in_ok-more.more) (sym same)
          (c.in_ok-more.ensures entries later (subst (λ (set : List ℕ). IsKnown c.args.measures.now set entries one) same own) are));
    }

pub returns : goal.returns
returns c =
    let l = c.loop-one in
    let olds = c.args.self.sets.items in
    let none : length (into_iter_items l.one-iterator) ≡ 0 = omega (arith, l.one-iterator.rest.ok.0, c.in-None.ensures.steps.0) in
    let done : l.place ≡ length olds = omega (arith, l.invariant.all, none) in
    λ entries later known are.
    record {
      rows = omega (arith, known.rows, rows_many c.args.width c.args.measures.now later c.args.inputs.now are, length-append entries later);
      few = omega (arith, known.rows, rows_many c.args.width c.args.measures.now later c.args.inputs.now are, length-append entries later, c.requires.few);
      wide = appended (λ (entry : Entry). length entry.0 ≡ c.args.width) entries later known.wide (all_wide c.args.width c.args.measures.now later c.args.inputs.now are);
      many = l.invariant.many ∙ done ∙ known.many;
      each = λ i lt one f. l.invariant.each entries later known are i one (omega (arith, lt, done, known.many)) f;
    }
