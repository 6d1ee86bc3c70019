use Rattle.std.proofs.Common.{◌≡◌, ◌∙◌, ◌∷◌, ◌++◌, [], map, cond, refl, ap}
use Rattle.group_numbers.proofs.PlaceLaws.{of_kept, to_kept, kept_more, empty_told}
use Rattle.group_numbers.proofs.keys.GroupKeys.of_no_values.Goals as goal

pub returns-clause-kept : goal.returns-clause-kept
returns-clause-kept c =
    let keys = c.by_bytes-keys.result in
    let before = of_kept keys c.by_bytes-keys.ensures.kept c.by_bytes-keys.ensures.mode in
    let grown : c.push_copy_if-2.new.rows ≡ cond c.in_ok-place.place.is_new (keys.rows ++ [] ∷ []) keys.rows
    = c.in_ok-push_copy_if.ensures ∙ ap (λ k. cond c.in_ok-place.place.is_new (keys.rows ++ k ∷ []) keys.rows) c.new.ensures in
    to_kept _ c.by_bytes-keys.ensures.mode (kept_more keys.rows c.push_copy_if-2.new.rows [] (map (λ k. k.items) keys.set.keys) (map (λ k. k.items) c.place_of.new.set.keys) [] c.in_ok-place.place.is_new before empty_told refl c.in_ok-place.ensures.is_new grown c.in_ok-place.ensures.keys)
