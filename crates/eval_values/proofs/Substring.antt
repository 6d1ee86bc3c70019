-- A part of a text, by where it starts and how many characters it has.
use Rattle.std.specs.Prelude.{◌≡◌, ℕ, suc, ℤ, pos, List, [], ◌∷◌, Some, Ok, true, chars, take, drop, encode_utf8_all, if◌then◌else◌}
use Rattle.std.specs.Str.{IsUtf8, is_utf8}
use Rattle.std.proofs.Common.{sym, ap, ◌∙◌}
use Rattle.std.proofs.lemmas.Str.{chars_from_encodes}
use Rattle.sub_types.specs.declared.value.Value.TheVariants as values
use Rattle.plan_denote.specs.Computed.{Computed, null}
use Rattle.plan_denote.specs.Texts.{substring, if_text, part_of}

-- so many characters
pub counted : (text : List ℕ) (start : ℤ) (count : ℤ) (from n : ℕ) → start ≡ pos (suc from) → count ≡ pos n → substring (values.Bytes text ∷ values.Int start ∷ values.Int count ∷ []) ≡ if_text text (part_of (chars text) from (Some n))
counted text start count from n s c =
    ap (λ z. substring (values.Bytes text ∷ values.Int z ∷ values.Int count ∷ [])) s
    ∙ ap (λ z. substring (values.Bytes text ∷ values.Int (pos (suc from)) ∷ values.Int z ∷ [])) c

-- what a text gives
given_text : (bytes : List ℕ) (computed : Computed) → is_utf8 bytes ≡ true → if_text bytes computed ≡ computed
given_text bytes computed u = ap (λ t. if t then computed else null) u

pub counted_part : (bytes text rest part : List ℕ) (start count : ℤ) (from n : ℕ) → text ≡ bytes → is_utf8 bytes ≡ true → start ≡ pos (suc from) → count ≡ pos n → IsUtf8 rest → rest ≡ encode_utf8_all (drop from (chars text)) → part ≡ encode_utf8_all (take n (chars rest)) → substring (values.Bytes bytes ∷ values.Int start ∷ values.Int count ∷ []) ≡ Ok (values.Bytes part)
counted_part bytes text rest part start count from n t u s c v r p =
    let kept : drop from (chars text) ≡ chars rest = chars_from_encodes (drop from (chars text)) rest v (sym r) in
    counted bytes start count from n s c ∙ given_text bytes (part_of (chars bytes) from (Some n)) u
    ∙ ap (λ b. Ok (values.Bytes b))
    (ap (λ z. encode_utf8_all (take n (drop from (chars z)))) (sym t) ∙ ap (λ z. encode_utf8_all (take n z)) kept ∙ sym p)
