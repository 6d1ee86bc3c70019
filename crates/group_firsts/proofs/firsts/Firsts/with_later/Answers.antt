use Rattle.std.proofs.Common.{◌≡◌, ◌∙◌, ◌<◌, length, map, All, ap, sym, subst}
use Rattle.std.proofs.lemmas.List.{length-map}
use Rattle.std.specs.Prelude.{slice_index_or}
use Rattle.group_numbers.specs.Keys.{AreAt, IsOnce, with_keys}
use Rattle.group_firsts.specs.Firsts.{key_in, with_new, numbers_at}
use Rattle.group_firsts.proofs.PairLaws.{owned, at_still, as_many, numbers_there, pairs_both}
use Rattle.group_firsts.proofs.firsts.Firsts.with_later.Goals as goal

pub numbers_at-requires : goal.numbers_at-requires
numbers_at-requires c = subst (All (λ place. place < length c.args.numbers.now)) (sym c.as_slice.ensures.value) c.requires.later.within

pub add_new-requires : goal.add_new-requires
add_new-requires c =
    let later = c.args.later.now in
    let many : length c.in_ok-places.places.items ≡ length later.pairs.rows = as_many c.numbers_from.new.self.rows c.in_ok-places.places.items later.pairs.rows c.in_ok-places.ensures.numbers in
    let found : length c.in_ok-owners.owners.items ≡ length c.as_slice.result.now = ap length c.in_ok-owners.ensures ∙ length-map c.as_slice.result.now (λ place. slice_index_or c.args.numbers.now place 0) in
    ap length c.as_slice-3.ensures.value ∙ found ∙ ap length c.as_slice.ensures.value ∙ c.requires.later.sized ∙ sym (ap length c.as_slice-2.ensures.value ∙ many)

pub returns : goal.returns
returns c =
    let later = c.args.later.now in
    let numbers = c.args.numbers.now in
    let old = c.args.self.pairs.rows in
    let groups = c.args.self.groups.items in
    let grown = c.numbers_from.new.self.rows in
    let more = later.pairs.rows in
    let e = c.in_ok-places.ensures in
    let places = c.in_ok-places.places.items in
    let owners = numbers_at numbers later.groups.items in
    let same : c.add_new.new.groups.items ≡ with_new groups places owners =
    c.in_ok-add_new.ensures ∙ ap (λ l. with_new groups l c.as_slice-3.result.now) c.as_slice-2.ensures.value
    ∙ ap (with_new groups places) (c.as_slice-3.ensures.value ∙ c.in_ok-owners.ensures ∙ ap (numbers_at numbers) c.as_slice.ensures.value) in
    λ keys others entries others_entries place is are at.
    let all = with_keys keys others in
    let here : AreAt all owners (map key_in more) = numbers_there all others numbers later.groups.items (map key_in more) at are.owned in
    let own : AreAt all (with_new groups places owners) (map key_in (with_keys old more)) =
    owned all old more groups places owners (subst IsOnce e.rows e.kept.once) (subst (λ rows. AreAt rows places more) e.rows e.numbers) (at_still keys others groups (map key_in old) is.owned) here in
    record {
      kept = e.kept;
      pairs = pairs_both place entries others_entries old grown more is.pairs are.pairs e.rows;
      owned = subst (λ rows. AreAt all c.add_new.new.groups.items (map key_in rows)) (sym e.rows) (subst (λ l. AreAt all l (map key_in (with_keys old more))) (sym same) own);
    }
