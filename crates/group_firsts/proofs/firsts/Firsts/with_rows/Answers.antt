use Rattle.std.proofs.Common.{◌≡◌, ◌∙◌, length, map, ap, sym, subst}
use Rattle.std.proofs.lemmas.List.FromFn.{length-map-range_with_len}
use Rattle.row_keys.specs.Keys.{key_of}
use Rattle.group_numbers.specs.Keys.{AreAt, IsOnce, with_keys, keys_at}
use Rattle.group_columns.specs.Columns.{keys_of}
use Rattle.group_firsts.specs.Firsts.{key_in, with_new}
use Rattle.group_firsts.proofs.PairLaws.{owned, at_still, as_many, pair_keys, pairs_more}
use Rattle.group_firsts.proofs.firsts.Firsts.with_rows.Goals as goal

pub add_new-requires : goal.add_new-requires
add_new-requires c =
    let columns = c.args.columns.now in
    let batch = c.args.batch.now in
    let many : length c.in_ok-places.places.items ≡ length (keys_at columns batch) = as_many c.numbers_of.new.self.rows c.in_ok-places.places.items (keys_at columns batch) c.in_ok-places.ensures.numbers in
    let rows : length (keys_at columns batch) ≡ batch.rows = length-map-range_with_len (key_of columns batch) 0 batch.rows in
    c.requires.all ∙ sym (ap length c.as_slice.ensures.value ∙ many ∙ rows)

pub returns : goal.returns
returns c =
    let columns = c.args.columns.now in
    let batch = c.args.batch.now in
    let numbers = c.args.numbers.now in
    let old = c.args.self.pairs.rows in
    let groups = c.args.self.groups.items in
    let grown = c.numbers_of.new.self.rows in
    let more = keys_at columns batch in
    let e = c.in_ok-places.ensures in
    let places = c.in_ok-places.places.items in
    λ keys entries later place is are at.
    let all = with_keys keys (keys_of later) in
    let here : AreAt all numbers (map key_in more) = subst (AreAt all numbers) (sym (pair_keys place later) ∙ ap (map key_in) are) at in
    let own : AreAt all (with_new groups places numbers) (map key_in (with_keys old more)) =
    owned all old more groups places numbers (subst IsOnce e.rows e.kept.once) (subst (λ rows. AreAt rows places more) e.rows e.numbers) (at_still keys (keys_of later) groups (map key_in old) is.owned) here in
    record {
      kept = e.kept;
      pairs = pairs_more place entries later old grown more is.pairs are e.rows;
      owned =
          subst (λ rows. AreAt all c.add_new.new.groups.items (map key_in rows)) (sym e.rows)
          (subst (λ l. AreAt all l (map key_in (with_keys old more))) (sym (c.in_ok-add_new.ensures ∙ ap (λ l. with_new groups l numbers) c.as_slice.ensures.value)) own);
    }
