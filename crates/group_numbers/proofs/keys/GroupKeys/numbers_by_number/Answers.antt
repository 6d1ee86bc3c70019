use Rattle.std.proofs.Common.{◌≡◌, ◌∙◌, ◌+◌, ◌++◌, ◌∷◌, [], Some, ap, sym, subst, arith}
use Rattle.std.specs.List.{slice_get}
use Rattle.std.proofs.lemmas.List.FromFn.{map-range_with_len_more}
use Rattle.plan_denote.specs.Distinct.{is_same_row}
use Rattle.group_keys.specs.Keys.{with_item, key_of_number}
use Rattle.group_numbers.specs.Keys.{AreAt, with_keys}
use Rattle.group_numbers.specs.Numbers.{key_in, keys_in}
use Rattle.group_numbers.proofs.PlaceLaws.{at_end, with_keys-end}
use Rattle.group_numbers.proofs.keys.GroupKeys.numbers_by_number.Goals as goal

pub loop-row-preserved : goal.loop-row-preserved
loop-row-preserved c =
    let before = c.loop-row.self.rows in
    let after = c.number_of_whole.new.self.rows in
    let column = c.args.column.now in
    let key = key_in column c.loop-row.row in
    let keys = keys_in column c.loop-row.row in
    let is : key_of_number c.number_in.result ≡ key = ap (λ value. value ∷ []) c.number_in.ensures in
    let more = map-range_with_len_more (key_in column) 0 c.loop-row.row c.loop-row.row (omega arith) in
    let grown : after ≡ with_item is_same_row before key = c.in_ok-number.ensures.rows ∙ ap (with_item is_same_row before) is in
    let found : slice_get after c.in_ok-number.number ≡ Some key = c.in_ok-number.ensures.number ∙ ap (λ k. Some k) is in
    let rows : after ≡ with_keys c.args.self.now.rows (keys ++ key ∷ [])
    = grown ∙ ap (λ r. with_item is_same_row r key) c.loop-row.invariant.rows ∙ sym (with_keys-end c.args.self.now.rows keys key) in
    let numbers : AreAt after (c.loop-row.numbers.items ++ c.in_ok-number.number ∷ []) (keys ++ key ∷ [])
    = at_end before after key c.loop-row.numbers.items keys c.in_ok-number.number c.loop-row.invariant.numbers grown found in
    record {
      kept = c.in_ok-number.ensures.kept;
      mode = c.in_ok-number.ensures.mode;
      rows = rows ∙ ap (with_keys c.args.self.now.rows) (sym more);
      numbers = subst (λ l. AreAt after l (keys_in column (c.loop-row.row + 1))) (sym c.in_ok-push.ensures.items) (subst (AreAt after (c.loop-row.numbers.items ++ c.in_ok-number.number ∷ [])) (sym more) numbers);
    }
