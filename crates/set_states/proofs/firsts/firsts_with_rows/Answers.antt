use Rattle.std.proofs.Common.{◌≡◌, ◌∙◌, ◌+◌, ◌<◌, ◌++◌, ◌∷◌, true, length, drop, get_or, ap, sym, arith, length-append, []}
use Rattle.std.specs.Vec.Iter.{into_iter_items}
use Rattle.plan_typed.specs.declared.rel.SetMeasure.{SetMeasure}
use Rattle.group_numbers.specs.Keys.{with_keys}
use Rattle.group_columns.specs.Columns.{keys_of}
use Rattle.group_firsts.specs.Firsts.{AreFirsts}
use Rattle.set_states.proofs.PushLaws.{each_more, same_item, first_left, rest_left}
use Rattle.set_states.proofs.firsts.firsts_with_rows.Goals as goal

pub loop-one-init : goal.loop-one-init
loop-one-init c =
    let gives = c.into_iter-one-iterator.ensures.into_iter_gives.0 in
    record {
      left = gives;
      all = omega (arith, ap length gives);
      within = c.requires.kept.2.many;
      many = ap length c.new-more.ensures.items;
      each = λ keys entries later kept pairs at i one lt. absurd (omega (arith, lt));
    }

pub loop-one-preserved : goal.loop-one-preserved
loop-one-preserved c =
    let l = c.loop-one in
    let before = l.invariant in
    let step = c.in-Some.ensures.steps.0 in
    let one = c.in-Some.one in
    let rest = into_iter_items c.next.new.self in
    let firsts = c.args.firsts.items in
    let measures = c.args.measures.now in
    let long : length (into_iter_items l.one-iterator) ≡ length (one ∷ rest) = ap length step in
    let within : l.place < length firsts = omega (arith, before.all, long) in
    let at : one ∷ rest ≡ drop l.place firsts = sym step ∙ before.left in
    let is : one ≡ get_or firsts l.place one = first_left firsts rest l.place one within at in
    let measure = c.index-measures-place.result in
    record {
      left = rest_left firsts rest l.place one within at;
      all = omega (arith, before.all, long);
      within = before.within;
      many = ap length c.in_ok-push.ensures.items ∙ length-append l.more.items (c.in_ok-with.with ∷ []) ∙ ap (λ n. n + 1) before.many;
      each = λ keys entries later kept pairs numbered.
          let there : l.place < length measures = omega (arith, within, kept.many) in
          each_more (λ i two. (m : SetMeasure) → m ≡ get_or measures i m → m.distinct ≡ true → AreFirsts (with_keys keys (keys_of later)) (entries ++ later) i two)
          l.more.items c.push.new.self.items c.in_ok-with.with l.place c.in_ok-push.ensures.items before.many
          (λ i two lt f. before.each keys entries later kept pairs numbered i two lt f)
          (λ m f d.
          let same : m ≡ measure = same_item measures l.place m measure there f c.index-measures-place.is in
          let distinct : (get_or measures l.place measure).distinct ≡ true = ap (λ (x : SetMeasure). x.distinct) (sym c.index-measures-place.is) ∙ ap (λ (x : SetMeasure). x.distinct) (sym same) ∙ d in
          c.in_ok-with.ensures keys entries later l.place distinct (kept.each l.place there m f d one is) (pairs l.place there m f d) numbered);
    }

pub returns : goal.returns
returns c =
    let l = c.loop-one in
    let before = l.invariant in
    let none : length (into_iter_items l.one-iterator) ≡ 0 = omega (arith, l.one-iterator.rest.ok.0, c.in-None.ensures.steps.0) in
    let done : l.place ≡ length c.args.firsts.items = omega (arith, before.all, none) in
    λ keys entries later kept pairs at.
    record {
      many = before.many ∙ done ∙ kept.many;
      each = λ i lt measure is distinct one e. before.each keys entries later kept pairs at i one (omega (arith, lt, done, kept.many)) e measure is distinct;
    }

pub one_with_rows-requires-clause-kept : goal.one_with_rows-requires-clause-kept
one_with_rows-requires-clause-kept c =
    let l = c.loop-one in
    let step = c.in-Some.ensures.steps.0 in
    let one = c.in-Some.one in
    let rest = into_iter_items c.next.new.self in
    let firsts = c.args.firsts.items in
    let long : length (into_iter_items l.one-iterator) ≡ length (one ∷ rest) = ap length step in
    let within : l.place < length firsts = omega (arith, l.invariant.all, long) in
    let is : one ≡ get_or firsts l.place one = first_left firsts rest l.place one within (sym step ∙ l.invariant.left) in
    let kept = c.requires.kept.2 in
    let there : l.place < length c.args.measures.now = omega (arith, within, kept.many) in
    λ distinct. (kept.each l.place there c.index-measures-place.result c.index-measures-place.is (ap (λ (x : SetMeasure). x.distinct) c.index-measures-place.is ∙ distinct) one is).kept

pub one_with_rows-requires-clause-there : goal.one_with_rows-requires-clause-there
one_with_rows-requires-clause-there c =
    let l = c.loop-one in
    let step = c.in-Some.ensures.steps.0 in
    let long : length (into_iter_items l.one-iterator) ≡ length (c.in-Some.one ∷ into_iter_items c.next.new.self) = ap length step in
    omega (arith, l.invariant.all, long, c.requires.kept.2.many, c.requires.there)
