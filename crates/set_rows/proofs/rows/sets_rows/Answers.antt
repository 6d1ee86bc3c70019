use Rattle.std.proofs.Common.{◌≡◌, ◌∙◌, ◌<◌, ◌≤◌, ◌∷◌, ℕ, List, [], length, map, drop, get_or, ap, ap₂, sym, subst, arith, Vec, Global, Option}
use Rattle.std.specs.Vec.Iter.{into_iter_items}
use Rattle.std.proofs.lemmas.List.{length-map}
use Rattle.sub_types.specs.declared.fault.Fault.{Fault}
use Rattle.plan_denote.specs.Computed.{Row}
use Rattle.plan_denote.specs.Denote.{any_measure}
use Rattle.plan_denote.specs.GroupSets.{rows_of_set}
use Rattle.set_states.specs.States.{IsKnown}
use Rattle.set_states.proofs.PushLaws.{first_left, rest_left}
use Rattle.set_states.proofs.SetLaws.{set_at}
use Rattle.set_rows.specs.Rows.{seen}
use Rattle.set_rows.proofs.RowLaws.{rows_at, none_end, sets_first, sets_next, sets_ended, sets_done, sets_few}
use Rattle.set_rows.proofs.rows.sets_rows.Goals as goal

pub loop-one-init : goal.loop-one-init
loop-one-init c =
    let gives = c.into_iter-one-iterator.ensures.into_iter_gives.0 in
    record {
      left = gives;
      all = omega (arith, ap length gives);
      rows = λ entries known. sets_first c.args.relation c.args.width (map (λ (set : Vec ℕ Global). set.items) c.args.places.now) (map any_measure c.args.measures.now) entries c.new-rows.result.items c.new-rows.ensures.items;
    }

pub set_number-requires : goal.set_number-requires
set_number-requires c =
    let l = c.loop-one in
    let step = c.in-Some.ensures.steps.0 in
    let long : length (into_iter_items l.one-iterator) ≡ length (c.in-Some.one ∷ into_iter_items c.next.new.self) = ap length step in
    omega (arith, l.invariant.all, long, c.requires.1.many, length-map c.args.places.now (λ (set : Vec ℕ Global). set.items))

pub set_rows-requires : goal.set_rows-requires
set_rows-requires c =
    let l = c.loop-one in
    let step = c.in-Some.ensures.steps.0 in
    let one = c.in-Some.one in
    let rest = into_iter_items c.next.new.self in
    let olds = c.args.sets.sets.items in
    let long : length (into_iter_items l.one-iterator) ≡ length (one ∷ rest) = ap length step in
    let within : l.place < length olds = omega (arith, l.invariant.all, long) in
    let is : one ≡ get_or olds l.place one = first_left olds rest l.place one within (sym step ∙ l.invariant.left) in
    let known = c.requires.1 in
    let there : l.place < length c.args.places.now = omega (arith, within, known.many, length-map c.args.places.now (λ (set : Vec ℕ Global). set.items)) in (
      c.requires.0,
      subst (λ (set : List ℕ). IsKnown c.args.measures.now set c.requires.0 one) (set_at c.args.places.now l.place c.index-places-place.result there c.index-places-place.is ∙ sym c.as_slice.ensures.value) (known.each l.place (omega (arith, within, known.many)) one is),
      known.few,
    )

pub loop-one-preserved : goal.loop-one-preserved
loop-one-preserved c =
    let l = c.loop-one in
    let step = c.in-Some.ensures.steps.0 in
    let one = c.in-Some.one in
    let rest = into_iter_items c.next.new.self in
    let olds = c.args.sets.sets.items in
    let measures = c.args.measures.now in
    let any = map any_measure measures in
    let places = map (λ (set : Vec ℕ Global). set.items) c.args.places.now in
    let out = c.in_ok-out.out in
    let long : length (into_iter_items l.one-iterator) ≡ length (one ∷ rest) = ap length step in
    let within : l.place < length olds = omega (arith, l.invariant.all, long) in
    let at : one ∷ rest ≡ drop l.place olds = sym step ∙ l.invariant.left in
    let is : one ≡ get_or olds l.place one = first_left olds rest l.place one within at in
    record {
      left = rest_left olds rest l.place one within at;
      all = omega (arith, l.invariant.all, long);
      rows = λ entries known.
          let there : l.place < length places = omega (arith, within, known.many) in
          let here : l.place < length c.args.places.now = omega (arith, there, length-map c.args.places.now (λ (set : Vec ℕ Global). set.items)) in
          let same : get_or places l.place [] ≡ c.as_slice.result.now = set_at c.args.places.now l.place c.index-places-place.result here c.index-places-place.is ∙ sym c.as_slice.ensures.value in
          let own = subst (λ (set : List ℕ). IsKnown measures set entries one) same (known.each l.place there one is) in
          let given : rows_at c.args.relation c.args.width places any entries (l.place, get_or places l.place []) ≡ seen out =
          sym (c.in_ok-out.ensures entries own known.wide ∙ ap₂ (λ (set : List ℕ) (last : Row). rows_of_set c.args.relation c.args.width any entries set last) (sym same) c.in_ok-numbered.ensures) in
          sets_next (rows_at c.args.relation c.args.width places any entries) places l.place l.rows.items out.rows.items c.append.new.self.items _ there
          (given ∙ ap (λ (end : Option Fault). record { rows = out.rows.items; end = end }) (none_end out.end (sym c.if-ended.ensures))) c.in_ok-append.ensures.items (l.invariant.rows entries known);
    }

pub returns-then-ended : goal.returns-then-ended
returns-then-ended c =
    let l = c.loop-one in
    let step = c.in-Some.ensures.steps.0 in
    let one = c.in-Some.one in
    let rest = into_iter_items c.next.new.self in
    let olds = c.args.sets.sets.items in
    let measures = c.args.measures.now in
    let any = map any_measure measures in
    let places = map (λ (set : Vec ℕ Global). set.items) c.args.places.now in
    let out = c.in_ok-out.out in
    let long : length (into_iter_items l.one-iterator) ≡ length (one ∷ rest) = ap length step in
    let within : l.place < length olds = omega (arith, l.invariant.all, long) in
    let at : one ∷ rest ≡ drop l.place olds = sym step ∙ l.invariant.left in
    let is : one ≡ get_or olds l.place one = first_left olds rest l.place one within at in
    λ entries known.
    let there : l.place < length places = omega (arith, within, known.many) in
    let here : l.place < length c.args.places.now = omega (arith, there, length-map c.args.places.now (λ (set : Vec ℕ Global). set.items)) in
    let same : get_or places l.place [] ≡ c.as_slice.result.now = set_at c.args.places.now l.place c.index-places-place.result here c.index-places-place.is ∙ sym c.as_slice.ensures.value in
    let own = subst (λ (set : List ℕ). IsKnown measures set entries one) same (known.each l.place there one is) in
    let given : rows_at c.args.relation c.args.width places any entries (l.place, get_or places l.place []) ≡ seen out =
    sym (c.in_ok-out.ensures entries own known.wide ∙ ap₂ (λ (set : List ℕ) (last : Row). rows_of_set c.args.relation c.args.width any entries set last) (sym same) c.in_ok-numbered.ensures) in
    sym (sets_few c.args.relation c.args.width places any entries known.few
    ∙ sets_ended (rows_at c.args.relation c.args.width places any entries) places l.place l.rows.items out.rows.items c.append.new.self.items out.end _ (sym c.if-ended.ensures) there given c.in_ok-append.ensures.items (l.invariant.rows entries known))

pub returns : goal.returns
returns c =
    let l = c.loop-one in
    let places = map (λ (set : Vec ℕ Global). set.items) c.args.places.now in
    let none : length (into_iter_items l.one-iterator) ≡ 0 = omega (arith, l.one-iterator.rest.ok.0, c.in-None.ensures.steps.0) in
    λ entries known.
    let any = map any_measure c.args.measures.now in
    let done : length places ≤ l.place = omega (arith, l.invariant.all, none, known.many) in
    sym (sets_few c.args.relation c.args.width places any entries known.few ∙ sets_done (rows_at c.args.relation c.args.width places any entries) places l.place l.rows.items _ done (l.invariant.rows entries known))
