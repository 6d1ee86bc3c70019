-- Ends of four bytes, behind a first place.
use Rattle.std.proofs.Common.{◌≡◌, ◌∙◌, ℕ, zero, suc, ◌+◌, ◌-◌, ◌%◌, ◌^◌, ◌<◌, List, [], ◌∷◌, map, drop, Bool, true, false, ◌&&◌, nat_le, Some, inl, inr, refl, sym, ap, arith}
use Rattle.std.specs.List.{AllByRecursion}
use Rattle.std.specs.Simd.{first_chunks}
use Rattle.std.proofs.lemmas.List.{get_or-drop}
use Rattle.byteorder.specs.Endian.{little_number}
use Rattle.byteorder.specs.Numbers.{little_from-lt, little_from-take}
use Rattle.sub_types.specs.OptionSteps.{when}
use Rattle.arrow_decode.specs.Offsets.{behind, rises, risen}
use Rattle.arrow_decode.proofs.InKindLaws.{AreBytes}
use Rattle.arrow_decode.proofs.ListLaws.{and_right}
use Rattle.arrow_decode.proofs.NumberLaws.{map-map}
use Rattle.arrow_decode.proofs.TextLaws.{either, and_false, rises-above, rises-le}

-- numbers behind the first, in the numbers of 32 bits
abbrev short_behind : ℕ → List ℕ → List ℕ
short_behind begin places = map (λ place. (place + (2 ^ 32 - begin)) % 2 ^ 32) places

-- one below the first wraps round to one above the most, in 32 bits as in 64
short_rises : (us : List ℕ) (begin s most : ℕ) → begin + most < 2 ^ 32 → AllByRecursion (λ u. u < 2 ^ 32) us → rises s (short_behind begin us) most ≡ rises s (behind begin us) most
short_rises [] begin s most fits all = refl
short_rises (u ∷ us) begin s most fits all =
    let e = (u + (2 ^ 32 - begin)) % 2 ^ 32 in
    let f = (u + (2 ^ 64 - begin)) % 2 ^ 64 in
    let low : u < 2 ^ 32 = all.0 in
    elim (either u begin) as (λ _. (nat_le s e && rises e (short_behind begin us) most) ≡ (nat_le s f && rises f (behind begin us) most)) [
      | inl below ↦
          let short_far : most < e = omega arith in
          let far : most < f = omega arith in
          ap (λ b. nat_le s e && b) (rises-above e (short_behind begin us) most short_far) ∙ and_false (nat_le s e)
          ∙ sym (ap (λ b. nat_le s f && b) (rises-above f (behind begin us) most far) ∙ and_false (nat_le s f))
      | inr over ↦
          let same : e ≡ f = omega arith in
          ap (λ b. nat_le s e && b) (short_rises us begin e most fits all.1) ∙ ap (λ n. nat_le s n && rises n (behind begin us) most) same
    ]

-- those that rise are the same
short_same : (us : List ℕ) (begin s most : ℕ) → begin + most < 2 ^ 32 → AllByRecursion (λ u. u < 2 ^ 32) us → rises s (short_behind begin us) most ≡ true → short_behind begin us ≡ behind begin us
short_same [] begin s most fits all rising = refl
short_same (u ∷ us) begin s most fits all rising =
    let e = (u + (2 ^ 32 - begin)) % 2 ^ 32 in
    let f = (u + (2 ^ 64 - begin)) % 2 ^ 64 in
    let low : u < 2 ^ 32 = all.0 in
    let next = and_right (nat_le s e) (rises e (short_behind begin us) most) rising in
    let within = rises-le e (short_behind begin us) most next in
    let same : e ≡ f = omega (arith, within) in
    ap (λ n. n ∷ short_behind begin us) same ∙ ap (λ ends. f ∷ ends) (short_same us begin e most fits all.1 next)

short_risen : (us : List ℕ) (begin most : ℕ) → begin + most < 2 ^ 32 → AllByRecursion (λ u. u < 2 ^ 32) us → risen most (short_behind begin us) ≡ risen most (behind begin us)
short_risen us begin most fits all =
    by (rises 0 (short_behind begin us) most) refl
  where
    by : (b : Bool) → rises 0 (short_behind begin us) most ≡ b → risen most (short_behind begin us) ≡ risen most (behind begin us)
    by true rising = ap (risen most) (short_same us begin 0 most fits all rising)
    by false falls =
        ap (λ b. when b (Some (short_behind begin us))) falls
        ∙ sym (ap (λ b. when b (Some (behind begin us))) (sym (short_rises us begin 0 most fits all) ∙ falls))

-- a number of four bytes
chunks_fit : (n : ℕ) (bytes : List ℕ) → AreBytes bytes → AllByRecursion (λ u. u < 2 ^ 32) (map (little_number 4) (first_chunks 4 n bytes))
chunks_fit zero bytes are = tt
chunks_fit (suc n) bytes are =
    let whole = little_from-take 0 4 4 bytes (omega arith) in
    let low = little_from-lt 0 4 bytes (λ k. are k) in
    (omega (arith, whole, low), chunks_fit n (drop 4 bytes) (λ k. let here = get_or-drop 4 bytes k 0 in let byte = are (4 + k) in omega (arith, here, byte)))

-- the ends that are read of four bytes each
pub chunks_risen : (n : ℕ) (bytes : List ℕ) (begin most : ℕ) → begin + most < 2 ^ 32 → AreBytes bytes
    → risen most (map (λ chunk. (little_number 4 chunk + (2 ^ 32 - begin)) % 2 ^ 32) (first_chunks 4 n bytes)) ≡ risen most (map (λ chunk. (little_number 4 chunk + (2 ^ 64 - begin)) % 2 ^ 64) (first_chunks 4 n bytes))
chunks_risen n bytes begin most fits are =
    let chunks = first_chunks 4 n bytes in
    ap (risen most) (sym (map-map (λ place. (place + (2 ^ 32 - begin)) % 2 ^ 32) (little_number 4) chunks))
    ∙ short_risen (map (little_number 4) chunks) begin most fits (chunks_fit n bytes are)
    ∙ ap (risen most) (map-map (λ place. (place + (2 ^ 64 - begin)) % 2 ^ 64) (little_number 4) chunks)
