use Rattle.std.proofs.Common.{◌≡◌, ◌∙◌, ◌+◌, ◌<◌, ◌++◌, ◌∷◌, [], length, drop, get_or, ap, sym, arith, length-append}
use Rattle.std.specs.Vec.Iter.{into_iter_items}
use Rattle.denote_typed.proofs.RowsLaws.{appended}
use Rattle.plan_denote.specs.Aggregate.{Entry}
use Rattle.set_states.specs.States.{IsKnown}
use Rattle.set_states.proofs.PushLaws.{each_more, first_left, rest_left}
use Rattle.set_states.proofs.sets.Sets.with_later.Goals as goal

pub loop-one-init : goal.loop-one-init
loop-one-init c =
    let gives = c.into_iter-one-iterator.ensures.into_iter_gives.0 in
    record {
      left = gives;
      all = omega (arith, ap length gives);
      within = c.requires.known.4.many ∙ sym c.requires.known.5.many;
      many = ap length c.new-all.ensures.items;
      each = λ width sets entries more known was i one lt. absurd (omega (arith, lt));
    }

pub with_later-requires : goal.with_later-requires
with_later-requires c =
    let l = c.loop-one in
    let olds = c.args.self.sets.items in
    let one = c.in-Some.one in
    let rest = into_iter_items c.next.new.self in
    let step = c.in-Some.ensures.steps.0 in
    let long : length (into_iter_items l.one-iterator) ≡ length (one ∷ rest) = ap length step in
    let within : l.place < length olds = omega (arith, l.invariant.all, long) in
    let is : one ≡ get_or olds l.place one = first_left olds rest l.place one within (sym step ∙ l.invariant.left) in
    let sets = c.requires.known.1 in
    let known = c.requires.known.4 in
    let was = c.requires.known.5 in
    let there : l.place < length sets = omega (arith, within, known.many) in record {
      known = (
        get_or sets l.place [],
        c.requires.known.2,
        c.requires.known.3,
        known.each l.place there one is,
        was.each l.place there c.index.result.now c.index.ensures,
        known.few,
        was.few,
      );
    }

pub loop-one-preserved : goal.loop-one-preserved
loop-one-preserved c =
    let l = c.loop-one in
    let before = l.invariant in
    let step = c.in-Some.ensures.steps.0 in
    let one = c.in-Some.one in
    let rest = into_iter_items c.next.new.self in
    let olds = c.args.self.sets.items in
    let long : length (into_iter_items l.one-iterator) ≡ length (one ∷ rest) = ap length step in
    let within : l.place < length olds = omega (arith, before.all, long) in
    let at : one ∷ rest ≡ drop l.place olds = sym step ∙ before.left in
    let is : one ≡ get_or olds l.place one = first_left olds rest l.place one within at in
    record {
      left = rest_left olds rest l.place one within at;
      all = omega (arith, before.all, long);
      within = before.within;
      many = ap length c.in_ok-push.ensures.items ∙ length-append l.all.items (c.in_ok-both.both ∷ []) ∙ ap (λ n. n + 1) before.many;
      each = λ width sets entries more known was.
          let there : l.place < length sets = omega (arith, within, known.many) in
          each_more (λ i two. IsKnown c.args.measures.now (get_or sets i []) (entries ++ more) two)
          l.all.items c.push.new.self.items c.in_ok-both.both l.place c.in_ok-push.ensures.items before.many
          (λ i two lt f. before.each width sets entries more known was i two lt f)
          (c.in_ok-both.ensures (get_or sets l.place []) entries more (known.each l.place there one is) (was.each l.place there c.index.result.now c.index.ensures));
    }

pub returns : goal.returns
returns c =
    let l = c.loop-one in
    let olds = c.args.self.sets.items in
    let none : length (into_iter_items l.one-iterator) ≡ 0 = omega (arith, l.one-iterator.rest.ok.0, c.in-None.ensures.steps.0) in
    let done : l.place ≡ length olds = omega (arith, l.invariant.all, none) in
    λ width sets entries more known was.
    record {
      rows = omega (arith, known.rows, was.rows, length-append entries more);
      few = omega (arith, known.rows, was.rows, length-append entries more, c.requires.few);
      wide = appended (λ (entry : Entry). length entry.0 ≡ width) entries more known.wide was.wide;
      many = l.invariant.many ∙ done ∙ known.many;
      each = λ i lt one f. l.invariant.each width sets entries more known was i one (omega (arith, lt, done, known.many)) f;
    }
