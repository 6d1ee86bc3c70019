use Rattle.std.proofs.Common.{◌≡◌, ◌∙◌, ◌++◌, ◌∷◌, [], map, cond, ap, slice_index_or, subst, sym, ◌<◌, length}
use Rattle.std.proofs.lemmas.List.{get_or_read}
use Rattle.std.proofs.lemmas.List.Elements.{All-get_or}
use Rattle.group_numbers.specs.Keys.{IsTold}
use Rattle.group_numbers.proofs.PlaceLaws.{of_kept, to_kept, kept_more, rows_more, found_key}
use Rattle.group_numbers.proofs.keys.GroupKeys.number_from.Goals as goal

pub returns-clause-kept : goal.returns-clause-kept
returns-clause-kept c =
    let later = c.args.later.now.rows in
    let key = slice_index_or later c.args.from [] in
    let told : IsTold key = All-get_or IsTold later c.args.from [] c.requires.from (c.requires.later.bytes c.requires.later_mode).told in
    let lent : c.args.from < length c.as_slice.result.now = subst (λ l. c.args.from < length l) (sym c.as_slice.ensures) c.requires.from in
    let is : c.index-as_slice-from.result ≡ key = get_or_read c.as_slice.result.now c.args.from c.index-as_slice-from.result lent c.index-as_slice-from.is [] ∙ ap (λ l. slice_index_or l c.args.from []) c.as_slice.ensures in
    let before = of_kept c.args.self.now c.requires.kept c.requires.mode in
    let after = kept_more c.args.self.now.rows c.push_copy_if.new.rows key (map (λ k. k.items) c.args.self.now.set.keys) (map (λ k. k.items) c.place_of.new.set.keys) c.bytes_at.result.now c.in_ok-place.place.is_new before told
    c.bytes_at.ensures c.in_ok-place.ensures.is_new (c.in_ok-push_copy_if.ensures ∙ ap (λ k. cond c.in_ok-place.place.is_new (c.args.self.now.rows ++ k ∷ []) c.args.self.now.rows) is) c.in_ok-place.ensures.keys in
    to_kept _ c.requires.mode after

pub returns-clause-rows : goal.returns-clause-rows
returns-clause-rows c =
    let later = c.args.later.now.rows in
    let key = slice_index_or later c.args.from [] in
    let told : IsTold key = All-get_or IsTold later c.args.from [] c.requires.from (c.requires.later.bytes c.requires.later_mode).told in
    let lent : c.args.from < length c.as_slice.result.now = subst (λ l. c.args.from < length l) (sym c.as_slice.ensures) c.requires.from in
    let is : c.index-as_slice-from.result ≡ key = get_or_read c.as_slice.result.now c.args.from c.index-as_slice-from.result lent c.index-as_slice-from.is [] ∙ ap (λ l. slice_index_or l c.args.from []) c.as_slice.ensures in
    rows_more c.args.self.now.rows c.push_copy_if.new.rows key (map (λ k. k.items) c.args.self.now.set.keys) c.bytes_at.result.now c.in_ok-place.place.is_new (c.requires.kept.bytes c.requires.mode).bytes (c.requires.kept.bytes c.requires.mode).told told
    c.bytes_at.ensures c.in_ok-place.ensures.is_new (c.in_ok-push_copy_if.ensures ∙ ap (λ k. cond c.in_ok-place.place.is_new (c.args.self.now.rows ++ k ∷ []) c.args.self.now.rows) is)

pub returns-clause-number : goal.returns-clause-number
returns-clause-number c =
    let later = c.args.later.now.rows in
    let key = slice_index_or later c.args.from [] in
    let told : IsTold key = All-get_or IsTold later c.args.from [] c.requires.from (c.requires.later.bytes c.requires.later_mode).told in
    let lent : c.args.from < length c.as_slice.result.now = subst (λ l. c.args.from < length l) (sym c.as_slice.ensures) c.requires.from in
    let is : c.index-as_slice-from.result ≡ key = get_or_read c.as_slice.result.now c.args.from c.index-as_slice-from.result lent c.index-as_slice-from.is [] ∙ ap (λ l. slice_index_or l c.args.from []) c.as_slice.ensures in
    let before = of_kept c.args.self.now c.requires.kept c.requires.mode in
    let after = kept_more c.args.self.now.rows c.push_copy_if.new.rows key (map (λ k. k.items) c.args.self.now.set.keys) (map (λ k. k.items) c.place_of.new.set.keys) c.bytes_at.result.now c.in_ok-place.place.is_new before told
    c.bytes_at.ensures c.in_ok-place.ensures.is_new (c.in_ok-push_copy_if.ensures ∙ ap (λ k. cond c.in_ok-place.place.is_new (c.args.self.now.rows ++ k ∷ []) c.args.self.now.rows) is) c.in_ok-place.ensures.keys in
    found_key c.push_copy_if.new.rows (map (λ k. k.items) c.place_of.new.set.keys) c.in_ok-place.place.number key c.bytes_at.result.now after told c.bytes_at.ensures c.in_ok-place.ensures.number
