use Rattle.std.proofs.Common.{◌≡◌, ◌∙◌, ◌+◌, ◌++◌, ◌∷◌, [], map, ap, sym, subst, arith}
use Rattle.std.specs.List.{range_with_len}
use Rattle.std.proofs.lemmas.List.FromFn.{map-range_with_len_more}
use Rattle.plan_denote.specs.Distinct.{is_same_row}
use Rattle.group_keys.specs.Keys.{with_item}
use Rattle.row_keys.specs.Keys.{key_of}
use Rattle.group_numbers.specs.Keys.{AreAt, with_keys}
use Rattle.group_numbers.proofs.PlaceLaws.{at_end, with_keys-end}
use Rattle.group_numbers.proofs.keys.GroupKeys.numbers_by_bytes.Goals as goal

pub loop-row-preserved : goal.loop-row-preserved
loop-row-preserved c =
    let before = c.loop-row.self.rows in
    let after = c.number_by_twin.new.self.rows in
    let key = key_of c.args.columns.now c.args.batch.now c.loop-row.row in
    let keys = map (key_of c.args.columns.now c.args.batch.now) (range_with_len 0 c.loop-row.row) in
    let more = map-range_with_len_more (key_of c.args.columns.now c.args.batch.now) 0 c.loop-row.row c.loop-row.row (omega arith) in
    let rows : after ≡ with_keys c.args.self.now.rows (keys ++ key ∷ [])
    = c.in_ok-number.ensures.rows ∙ ap (λ r. with_item is_same_row r key) c.loop-row.invariant.rows ∙ sym (with_keys-end c.args.self.now.rows keys key) in
    let numbers : AreAt after (c.loop-row.numbers.items ++ c.in_ok-number.number ∷ []) (keys ++ key ∷ [])
    = at_end before after key c.loop-row.numbers.items keys c.in_ok-number.number c.loop-row.invariant.numbers c.in_ok-number.ensures.rows c.in_ok-number.ensures.number in
    record {
      kept = c.in_ok-number.ensures.kept;
      mode = c.in_ok-number.ensures.mode;
      rows = rows ∙ ap (with_keys c.args.self.now.rows) (sym more);
      numbers = subst (λ l. AreAt after l (map (key_of c.args.columns.now c.args.batch.now) (range_with_len 0 (c.loop-row.row + 1)))) (sym c.in_ok-push.ensures.items) (subst (AreAt after (c.loop-row.numbers.items ++ c.in_ok-number.number ∷ [])) (sym more) numbers);
    }
