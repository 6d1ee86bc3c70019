use Rattle.std.proofs.Common.{◌≡◌, ◌∙◌, ◌+◌, ◌<◌, ◌≤◌, ◌^◌, ◌++◌, ◌∷◌, length, map, All, drop, sym, ap, subst, arith}
use Rattle.std.specs.Vec.Iter.{into_iter_items}
use Rattle.std.proofs.lemmas.List.Elements.{All-head, All-rest, All-nil, All-push}
use Rattle.group_laws.specs.Columns.{zipped}
use Rattle.group_tallies.specs.declared.tallies.Tallies.{Tallies}
use Rattle.group_tallies.specs.Kept.{tallies_in, keeping_in}
use Rattle.group_columns.specs.Columns.{count_in}
use Rattle.group_states.specs.States.{kept_in, with_rows}
use Rattle.group_states.proofs.StateLaws.{one_more}
use Rattle.group_states.proofs.columns.columns_with_rows.Goals as goal

pub loop-tallies-init : goal.loop-tallies-init
loop-tallies-init c =
    let gives = c.into_iter-tallies-iterator.ensures.into_iter_gives.0 in
    let left = into_iter_items c.into_iter-tallies-iterator.result in
    let none = c.new-more.ensures.items in
    let pair = with_rows c.args.groups c.args.numbers.now (length c.args.numbers.now) in
    let long : length left ≡ length c.args.columns.items = ap length gives in
    record {
      kept = ap (λ l. zipped pair (map kept_in l) c.args.taken.now) (sym gives) ∙ sym (ap (λ m. map kept_in m ++ zipped pair (map kept_in left) c.args.taken.now) none);
      all = omega (arith, long, c.requires.all);
      left = subst (All (λ tallies. length (tallies_in tallies) ≤ c.args.groups)) (sym gives) c.requires.groups;
      room = subst (All (λ tallies. count_in (tallies_in tallies) + length c.args.numbers.now ≤ 2 ^ 62)) (sym gives) c.requires.room;
      groups = subst (All (λ (tallies : Tallies). length (tallies_in tallies) ≡ c.args.groups)) (sym none) (All-nil (λ (tallies : Tallies). length (tallies_in tallies) ≡ c.args.groups));
      few = λ rows h. subst (All (λ tallies. count_in (tallies_in tallies) ≤ rows)) (sym gives) h;
      counts = λ rows h. subst (All (λ (tallies : Tallies). count_in (tallies_in tallies) ≤ rows + length c.args.numbers.now)) (sym none) (All-nil (λ (tallies : Tallies). count_in (tallies_in tallies) ≤ rows + length c.args.numbers.now));
    }

pub loop-tallies-preserved : goal.loop-tallies-preserved
loop-tallies-preserved c =
    let before = c.loop-tallies.invariant in
    let step = c.in-Some.ensures.steps.0 in
    let one = c.in-Some.tallies in
    let rest = into_iter_items c.next.new.self in
    let made = c.in_ok-kept.kept in
    let e = c.in_ok-kept.ensures in
    let items = c.in_ok-push.ensures.items in
    let place = c.loop-tallies.place in
    let taken = c.args.taken.now in
    let numbers = c.args.numbers.now in
    let pair = with_rows c.args.groups numbers (length numbers) in
    let long : length (into_iter_items c.loop-tallies.tallies-iterator) ≡ length (one ∷ rest) = ap length step in
    let within : place < length taken = omega (arith, before.all, long) in
    let is : kept_in made ≡ pair (kept_in one) c.index-taken-place.result
    = ap (λ k. record { keeping = k; tallies = tallies_in made }) e.keeping ∙ ap (λ l. record { keeping = keeping_in one; tallies = l }) e.tallies in
    record {
      kept = one_more kept_in pair (zipped pair (map kept_in c.args.columns.items) taken) c.loop-tallies.more.items c.push.new.self.items made (kept_in one) (map kept_in rest) place c.index-taken-place.result taken
          within c.index-taken-place.is is items (before.kept ∙ ap (λ l. map kept_in c.loop-tallies.more.items ++ zipped pair (map kept_in l) (drop place taken)) step);
      all = omega (arith, before.all, long);
      left = All-rest (λ tallies. length (tallies_in tallies) ≤ c.args.groups) one rest _ step before.left;
      room = All-rest (λ tallies. count_in (tallies_in tallies) + length numbers ≤ 2 ^ 62) one rest _ step before.room;
      groups = subst (All (λ (tallies : Tallies). length (tallies_in tallies) ≡ c.args.groups)) (sym items) (All-push (λ (tallies : Tallies). length (tallies_in tallies) ≡ c.args.groups) c.loop-tallies.more.items made before.groups e.groups);
      few = λ rows h. All-rest (λ tallies. count_in (tallies_in tallies) ≤ rows) one rest _ step (before.few rows h);
      counts = λ rows h.
          let head : count_in (tallies_in one) ≤ rows = All-head (λ tallies. count_in (tallies_in tallies) ≤ rows) one rest (subst (All (λ tallies. count_in (tallies_in tallies) ≤ rows)) step (before.few rows h)) in
          let last : count_in (tallies_in made) ≤ rows + length numbers = omega (arith, head, e.counts) in
          subst (All (λ (tallies : Tallies). count_in (tallies_in tallies) ≤ rows + length numbers)) (sym items) (All-push (λ (tallies : Tallies). count_in (tallies_in tallies) ≤ rows + length numbers) c.loop-tallies.more.items made (before.counts rows h) last);
    }
