-- What a write to one receipt does to the lists that contracts see.
use Rattle.std.proofs.Common.{◌≡◌, ℕ, ◌<◌, List, map, length, set, get_or, ap, ◌∙◌, sym}
use Rattle.std.proofs.lemmas.List.{map-set, get_or-map, set-get_or}
use Rattle.run_core.specs.Receipts.{Lists, no_lists, lists_of}
use Rattle.run_core.specs.declared.receipt.Receipt.{Receipt}

-- a receipt that is changed in its place
pub noted : (f : Lists → Lists) (rs : List Receipt) (w : ℕ) (r new : Receipt) → w < length rs → r ≡ get_or rs w r → lists_of new ≡ f (lists_of r)
    → map lists_of (set rs w new) ≡ set (map lists_of rs) w (f (get_or (map lists_of rs) w no_lists))
noted f rs w r new there is e =
    let at : get_or (map lists_of rs) w no_lists ≡ lists_of r = get_or-map lists_of rs w r no_lists there ∙ ap lists_of (sym is) in
    map-set lists_of rs w new ∙ ap (λ (l : Lists). set (map lists_of rs) w l) (e ∙ ap f (sym at))

-- a receipt whose lists stay
pub unchanged : (rs : List Receipt) (w : ℕ) (d new : Receipt) → w < length rs → lists_of new ≡ lists_of (get_or rs w d) → map lists_of (set rs w new) ≡ map lists_of rs
unchanged rs w d new there e =
    let at : get_or (map lists_of rs) w no_lists ≡ lists_of (get_or rs w d) = get_or-map lists_of rs w d no_lists there in
    map-set lists_of rs w new ∙ (ap (λ (l : Lists). set (map lists_of rs) w l) (e ∙ sym at) ∙ set-get_or (map lists_of rs) w no_lists)
