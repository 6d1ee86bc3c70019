use Rattle.std.proofs.Common.{◌≡◌, ◌∙◌, ◌+◌, ◌++◌, ◌∷◌, [], ap, sym, subst, take, slice_index_or, ◌<◌, length}
use Rattle.std.proofs.lemmas.List.{take_more}
use Rattle.plan_denote.specs.Distinct.{is_same_row}
use Rattle.group_keys.specs.Keys.{with_item}
use Rattle.group_numbers.specs.Keys.{AreAt, with_keys}
use Rattle.group_numbers.proofs.PlaceLaws.{at_end, with_keys-end}
use Rattle.group_numbers.proofs.keys.GroupKeys.numbers_from_bytes.Goals as goal

pub loop-from-preserved : goal.loop-from-preserved
loop-from-preserved c =
    let before = c.loop-from.self.rows in
    let after = c.number_from.new.self.rows in
    let later = c.args.later.now.rows in
    let key = slice_index_or later c.loop-from.from [] in
    let keys = take c.loop-from.from later in
    let within : c.loop-from.from < length later = subst (λ n. c.loop-from.from < n) c.len-from-end.ensures c.loop-from-test.true in
    let more = take_more later c.loop-from.from [] within in
    let rows : after ≡ with_keys c.args.self.now.rows (keys ++ key ∷ [])
    = c.in_ok-number.ensures.rows ∙ ap (λ r. with_item is_same_row r key) c.loop-from.invariant.rows ∙ sym (with_keys-end c.args.self.now.rows keys key) in
    let numbers : AreAt after (c.loop-from.numbers.items ++ c.in_ok-number.number ∷ []) (keys ++ key ∷ [])
    = at_end before after key c.loop-from.numbers.items keys c.in_ok-number.number c.loop-from.invariant.numbers c.in_ok-number.ensures.rows c.in_ok-number.ensures.number in
    record {
      kept = c.in_ok-number.ensures.kept;
      mode = c.in_ok-number.ensures.mode;
      rows = rows ∙ ap (with_keys c.args.self.now.rows) (sym more);
      numbers = subst (λ l. AreAt after l (take (c.loop-from.from + 1) later)) (sym c.in_ok-push.ensures.items) (subst (AreAt after (c.loop-from.numbers.items ++ c.in_ok-number.number ∷ [])) (sym more) numbers);
    }
