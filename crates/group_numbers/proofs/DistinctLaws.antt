-- Keys that are there once, with further keys.
use Rattle.std.proofs.Common.{◌≡◌, ◌∙◌, List, [], ◌∷◌, ◌++◌, sym, ap, append_assoc}
use Rattle.std.proofs.lemmas.List.{append-nil}
use Rattle.plan_denote.specs.Computed.{Row}
use Rattle.plan_denote.specs.Distinct.{distinct, is_same_row}
use Rattle.group_laws.proofs.SameLaws.{same_rows}
use Rattle.group_laws.proofs.DistinctLaws.{distinct_again, distinct_merged}
use Rattle.group_keys.proofs.ItemLaws.{with_item-distinct}
use Rattle.group_numbers.specs.Keys.{with_keys}

pub with_keys-distinct : (keys more : List Row) → with_keys (distinct is_same_row keys) more ≡ distinct is_same_row (keys ++ more)
with_keys-distinct keys [] = ap (distinct is_same_row) (sym (append-nil keys))
with_keys-distinct keys (key ∷ more) =
    ap (λ l. with_keys l more) (with_item-distinct same_rows keys key)
    ∙ with_keys-distinct (keys ++ key ∷ []) more
    ∙ ap (distinct is_same_row) (append_assoc keys (key ∷ []) more)

pub distinct_keys : (keys more : List Row) → with_keys (distinct is_same_row keys) (distinct is_same_row more) ≡ distinct is_same_row (keys ++ more)
distinct_keys keys more =
    ap (λ l. with_keys l (distinct is_same_row more)) (sym (distinct_again same_rows keys))
    ∙ with_keys-distinct (distinct is_same_row keys) (distinct is_same_row more)
    ∙ distinct_merged same_rows keys more
