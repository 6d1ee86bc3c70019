-- The texts of the regions.
use Rattle.std.proofs.Common.{◌≡◌, sym, subst, ap, ℕ, ◌+◌, ◌%◌, ◌<◌, ◌∷◌, [], arith}
use Rattle.std.specs.Str.{IsUtf8}
use Rattle.std.proofs.lemmas.Str.{IsUtf8-from_ascii}
use Rattle.std.proofs.lemmas.Str.Ascii.{IsAscii-from_all}
use Rattle.std.proofs.lemmas.List.Elements.{All-nil, All-push}
use Rattle.std.proofs.lemmas.Fmt.{decimal_digit}
use Rattle.gen_data.specs.Rows.{region_of}

-- two letters
pub region_is : (order : ℕ) → region_of order ≡ 114 ∷ (48 + order % 3) ∷ []
region_is order = let below : order % 3 < 10 = omega arith in ap (λ digits. 114 ∷ digits) (decimal_digit (order % 3) below)

-- they are UTF-8
pub region-utf8 : (order : ℕ) → IsUtf8 (region_of order)
region-utf8 order =
    let small = λ (byte : ℕ). byte < 128 in
    let below : 48 + order % 3 < 128 = omega arith in
    subst IsUtf8 (sym (region_is order)) (IsUtf8-from_ascii (114 ∷ (48 + order % 3) ∷ []) (IsAscii-from_all (114 ∷ (48 + order % 3) ∷ []) (All-push small (114 ∷ []) (48 + order % 3) (All-push small [] 114 (All-nil small) (omega arith)) below)))
