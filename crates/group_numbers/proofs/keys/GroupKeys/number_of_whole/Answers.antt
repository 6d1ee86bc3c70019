use Rattle.std.proofs.Common.{◌≡◌, ◌∙◌, Some, map, sym, ap, subst}
use Rattle.std.specs.List.{slice_get}
use Rattle.plan_denote.specs.Distinct.{is_same_row}
use Rattle.group_keys.specs.Keys.{with_item, key_of_number}
use Rattle.group_numbers.specs.Keys.{IsOnce}
use Rattle.group_numbers.proofs.PlaceLaws.{once_more}
use Rattle.group_numbers.proofs.WholeLaws.{whole_more, to_whole}
use Rattle.group_numbers.proofs.keys.GroupKeys.number_of_whole.Goals as goal

pub returns-clause-kept : goal.returns-clause-kept
returns-clause-kept c =
    let rows = c.args.self.now.rows in
    let key = key_of_number c.args.key in
    let was = c.requires.kept.whole c.requires.mode in
    let grown = whole_more rows c.push_number_if.new.rows (map key_of_number c.args.self.now.whole.keys) key c.in_ok-place.place.is_new was c.in_ok-place.ensures.is_new c.in_ok-push_number_if.ensures in
    to_whole _ c.requires.mode (subst IsOnce (sym grown) (once_more rows key c.requires.kept.once)) (c.in_ok-place.ensures.keys ∙ ap (λ l. with_item is_same_row l key) was ∙ sym grown)

pub returns-clause-rows : goal.returns-clause-rows
returns-clause-rows c =
    whole_more c.args.self.now.rows c.push_number_if.new.rows (map key_of_number c.args.self.now.whole.keys) (key_of_number c.args.key) c.in_ok-place.place.is_new (c.requires.kept.whole c.requires.mode) c.in_ok-place.ensures.is_new c.in_ok-push_number_if.ensures

pub returns-clause-number : goal.returns-clause-number
returns-clause-number c =
    let rows = c.args.self.now.rows in
    let key = key_of_number c.args.key in
    let was = c.requires.kept.whole c.requires.mode in
    let grown = whole_more rows c.push_number_if.new.rows (map key_of_number c.args.self.now.whole.keys) key c.in_ok-place.place.is_new was c.in_ok-place.ensures.is_new c.in_ok-push_number_if.ensures in
    subst (λ l. slice_get l c.in_ok-place.place.number ≡ Some key) (c.in_ok-place.ensures.keys ∙ ap (λ l. with_item is_same_row l key) was ∙ sym grown) c.in_ok-place.ensures.number
