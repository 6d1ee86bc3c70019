use Rattle.std.proofs.Common.{◌≡◌, ◌∙◌, ◌+◌, ◌<◌, ◌≤◌, ◌^◌, ◌++◌, ◌∷◌, length, map, All, drop, sym, ap, subst, arith}
use Rattle.std.specs.Vec.Iter.{into_iter_items}
use Rattle.std.proofs.lemmas.List.{length-map, get_or-map}
use Rattle.std.proofs.lemmas.List.Elements.{All-head, All-rest, All-nil, All-push, All-get_or}
use Rattle.group_laws.specs.Columns.{zipped}
use Rattle.group_tallies.specs.declared.tallies.Tallies.{Tallies}
use Rattle.group_tallies.specs.Kept.{tallies_in, keeping_in}
use Rattle.group_columns.specs.Columns.{count_in}
use Rattle.group_states.specs.States.{kept_in, with_groups}
use Rattle.group_states.proofs.StateLaws.{one_more, same_kind, same_kinds}
use Rattle.group_states.proofs.columns.columns_with_groups.Goals as goal

pub loop-tallies-init : goal.loop-tallies-init
loop-tallies-init c =
    let gives = c.into_iter-tallies-iterator.ensures.into_iter_gives.0 in
    let left = into_iter_items c.into_iter-tallies-iterator.result in
    let later = c.args.later.now in
    let none = c.new-more.ensures.items in
    let pair = with_groups c.args.groups c.args.numbers.now in
    let long : length left ≡ length c.args.columns.items = ap length gives in
    let same : length (map keeping_in c.args.columns.items) ≡ length (map keeping_in later) = ap length c.requires.keeping in
    record {
      kept = ap (λ l. zipped pair (map kept_in l) (map kept_in later)) (sym gives) ∙ sym (ap (λ m. map kept_in m ++ zipped pair (map kept_in left) (map kept_in later)) none);
      all = omega (arith, long, same, length-map c.args.columns.items keeping_in, length-map later keeping_in);
      keeping = ap (map keeping_in) gives ∙ c.requires.keeping;
      left = subst (All (λ tallies. length (tallies_in tallies) ≤ c.args.groups)) (sym gives) c.requires.groups;
      room = subst (All (λ tallies. count_in (tallies_in tallies) ≤ 2 ^ 61)) (sym gives) c.requires.few;
      groups = subst (All (λ (tallies : Tallies). length (tallies_in tallies) ≡ c.args.groups)) (sym none) (All-nil (λ (tallies : Tallies). length (tallies_in tallies) ≡ c.args.groups));
      few = λ rows h. subst (All (λ tallies. count_in (tallies_in tallies) ≤ rows)) (sym gives) h;
      counts = λ rows others h g. subst (All (λ (tallies : Tallies). count_in (tallies_in tallies) ≤ rows + others)) (sym none) (All-nil (λ (tallies : Tallies). count_in (tallies_in tallies) ≤ rows + others));
    }

pub loop-tallies-preserved : goal.loop-tallies-preserved
loop-tallies-preserved c =
    let before = c.loop-tallies.invariant in
    let step = c.in-Some.ensures.steps.0 in
    let one = c.in-Some.tallies in
    let rest = into_iter_items c.next.new.self in
    let made = c.in_ok-kept.kept in
    let e = c.in_ok-kept.ensures in
    let items = c.in_ok-push.ensures.items in
    let place = c.loop-tallies.place in
    let later = c.args.later.now in
    let other = c.index-later-place.result in
    let pair = with_groups c.args.groups c.args.numbers.now in
    let long : length (into_iter_items c.loop-tallies.tallies-iterator) ≡ length (one ∷ rest) = ap length step in
    let within : place < length later = omega (arith, before.all, long) in
    let in_kept : place < length (map kept_in later) = subst (λ n. place < n) (sym (length-map later kept_in)) within in
    let in_kinds : place < length (map keeping_in later) = subst (λ n. place < n) (sym (length-map later keeping_in)) within in
    let is : kept_in made ≡ pair (kept_in one) (kept_in other)
    = ap (λ k. record { keeping = k; tallies = tallies_in made }) e.keeping ∙ ap (λ l. record { keeping = keeping_in one; tallies = l }) e.tallies in
    record {
      kept = one_more kept_in pair (zipped pair (map kept_in c.args.columns.items) (map kept_in later)) c.loop-tallies.more.items c.push.new.self.items made (kept_in one) (map kept_in rest) place (kept_in other) (map kept_in later)
          in_kept (ap kept_in c.index-later-place.is ∙ sym (get_or-map kept_in later place other (kept_in other) within)) is items
          (before.kept ∙ ap (λ l. map kept_in c.loop-tallies.more.items ++ zipped pair (map kept_in l) (drop place (map kept_in later))) step);
      all = omega (arith, before.all, long);
      keeping = same_kinds (map keeping_in rest) (map keeping_in later) (keeping_in one) place (keeping_in one) in_kinds (sym (ap (map keeping_in) step) ∙ before.keeping);
      left = All-rest (λ tallies. length (tallies_in tallies) ≤ c.args.groups) one rest _ step before.left;
      room = All-rest (λ tallies. count_in (tallies_in tallies) ≤ 2 ^ 61) one rest _ step before.room;
      groups = subst (All (λ (tallies : Tallies). length (tallies_in tallies) ≡ c.args.groups)) (sym items) (All-push (λ (tallies : Tallies). length (tallies_in tallies) ≡ c.args.groups) c.loop-tallies.more.items made before.groups e.groups);
      few = λ rows h. All-rest (λ tallies. count_in (tallies_in tallies) ≤ rows) one rest _ step (before.few rows h);
      counts = λ rows others h g.
          let head : count_in (tallies_in one) ≤ rows = All-head (λ tallies. count_in (tallies_in tallies) ≤ rows) one rest (subst (All (λ tallies. count_in (tallies_in tallies) ≤ rows)) step (before.few rows h)) in
          let there : count_in (tallies_in other) ≤ others = subst (λ t. count_in (tallies_in t) ≤ others) (sym c.index-later-place.is) (All-get_or (λ tallies. count_in (tallies_in tallies) ≤ others) later place other within g) in
          let last : count_in (tallies_in made) ≤ rows + others = omega (arith, head, there, e.counts) in
          subst (All (λ (tallies : Tallies). count_in (tallies_in tallies) ≤ rows + others)) (sym items) (All-push (λ (tallies : Tallies). count_in (tallies_in tallies) ≤ rows + others) c.loop-tallies.more.items made (before.counts rows others h g) last);
    }

pub with_groups-requires-clause-keeping : goal.with_groups-requires-clause-keeping
with_groups-requires-clause-keeping c =
    let before = c.loop-tallies.invariant in
    let step = c.in-Some.ensures.steps.0 in
    let one = c.in-Some.tallies in
    let rest = into_iter_items c.next.new.self in
    let place = c.loop-tallies.place in
    let later = c.args.later.now in
    let other = c.index-later-place.result in
    let long : length (into_iter_items c.loop-tallies.tallies-iterator) ≡ length (one ∷ rest) = ap length step in
    let within : place < length later = omega (arith, before.all, long) in
    let in_kinds : place < length (map keeping_in later) = subst (λ n. place < n) (sym (length-map later keeping_in)) within in
    same_kind (map keeping_in rest) (map keeping_in later) (keeping_in one) place (keeping_in other) in_kinds (sym (ap (map keeping_in) step) ∙ before.keeping)
    ∙ get_or-map keeping_in later place other (keeping_in other) within
    ∙ sym (ap keeping_in c.index-later-place.is)
