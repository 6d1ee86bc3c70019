-- The parts of a column: what they have to be is what a column holds.
use Rattle.std.proofs.Common.{◌≡◌, ◌∙◌, ℕ, zero, suc, ◌+◌, ◌≤◌, List, [], ◌∷◌, ◌++◌, Bool, true, false, Option, Some, None, is_some, length, map, drop, refl, sym, ap, arith, length-append}
use Rattle.std.specs.List.{slice_range, concat}
use Rattle.std.proofs.lemmas.List.{length-map}
use Rattle.std.proofs.lemmas.List.Folds.{drop_split}
use Rattle.sub_types.specs.Optional.{optional}
use Rattle.sub_types.specs.OptionalLaws.{validity-optional}
use Rattle.sub_types.specs.Slots.{slots}
use Rattle.sub_types.specs.PartLaws.{length-part}
use Rattle.col_text.specs.Text.{ends_of, pieces, HoldsTexts, Rise, NullsAreEmpty, AreParts}
use Rattle.col_text.proofs.TextLaws.{HoldsTexts-length}

-- ends that rise stay within the bytes
pub Rise-le : (start : ℕ) (ends : List ℕ) (size : ℕ) → Rise start ends size → start ≤ size
Rise-le start [] size rising = omega arith
Rise-le start (end ∷ ends) size rising = let rest = Rise-le end ends size rising.1 in omega (arith, rising.0, rest)

-- a text for each end
pub length-pieces : (start : ℕ) (ends bytes : List ℕ) → length (pieces start ends bytes) ≡ length ends
length-pieces start [] bytes = refl
length-pieces start (end ∷ ends) bytes = let rest = length-pieces end ends bytes in omega (arith, rest)

-- nothing stands behind all
nothing_behind : (bytes : List ℕ) (n : ℕ) → n ≡ length bytes → drop n bytes ≡ []
nothing_behind [] zero all = refl
nothing_behind [] (suc n) all = refl
nothing_behind (x ∷ bytes) zero all = absurd (omega arith)
nothing_behind (x ∷ bytes) (suc n) all = nothing_behind bytes n (omega arith)

-- the texts hold all bytes
parts_bytes : (ends bytes : List ℕ) (valid : List Bool) (start : ℕ) → Rise start ends (length bytes) → length ends ≡ length valid → NullsAreEmpty start ends valid
    → concat (slots [] (optional (pieces start ends bytes) valid)) ≡ drop start bytes
parts_bytes [] bytes valid start rising counted empty = sym (nothing_behind bytes start rising)
parts_bytes (end ∷ ends) bytes [] start rising counted empty = absurd (omega arith)
parts_bytes (end ∷ ends) bytes (true ∷ valid) start rising counted empty =
    ap (λ (rest : List ℕ). slice_range bytes start end ++ rest) (parts_bytes ends bytes valid end rising.1 (omega arith) empty) ∙ sym (drop_split bytes start end rising.0)
parts_bytes (end ∷ ends) bytes (false ∷ valid) start rising counted empty =
    parts_bytes ends bytes valid end rising.1 (omega arith) empty.1 ∙ ap (λ n. drop n bytes) empty.0

-- and end where the parts say
parts_ends : (ends bytes : List ℕ) (valid : List Bool) (start : ℕ) → Rise start ends (length bytes) → length ends ≡ length valid → NullsAreEmpty start ends valid
    → ends_of start (slots [] (optional (pieces start ends bytes) valid)) ≡ ends
parts_ends [] bytes valid start rising counted empty = refl
parts_ends (end ∷ ends) bytes [] start rising counted empty = absurd (omega arith)
parts_ends (end ∷ ends) bytes (true ∷ valid) start rising counted empty =
    let within = Rise-le end ends (length bytes) rising.1 in
    let place : start + length (slice_range bytes start end) ≡ end = omega (arith, length-part bytes start end within, rising.0) in
    ap (λ n. n ∷ ends_of n (slots [] (optional (pieces end ends bytes) valid))) place ∙ ap (λ rest. end ∷ rest) (parts_ends ends bytes valid end rising.1 (omega arith) empty)
parts_ends (end ∷ ends) bytes (false ∷ valid) start rising counted empty =
    let place : start + 0 ≡ end = omega (arith, empty.0) in
    ap (λ n. n ∷ ends_of n (slots [] (optional (pieces end ends bytes) valid))) place ∙ ap (λ rest. end ∷ rest) (parts_ends ends bytes valid end rising.1 (omega arith) empty.1)

-- parts are a column's
pub HoldsTexts-parts : (ends bytes : List ℕ) (valid : List Bool) → AreParts ends bytes valid → HoldsTexts (optional (pieces 0 ends bytes) valid) ends bytes valid
HoldsTexts-parts ends bytes valid parts =
    record {
      ends_are = sym (parts_ends ends bytes valid 0 parts.rising parts.counted parts.empty);
      bytes_are = sym (parts_bytes ends bytes valid 0 parts.rising parts.counted parts.empty);
      valid_are = sym (validity-optional (pieces 0 ends bytes) valid (length-pieces 0 ends bytes ∙ parts.counted));
    }

-- the ends of texts rise
pub Rise-ends_of : (texts : List (List ℕ)) (start size : ℕ) → start + length (concat texts) ≡ size → Rise start (ends_of start texts) size
Rise-ends_of [] start size whole = omega arith
Rise-ends_of (text ∷ texts) start size whole =
    (omega arith, Rise-ends_of texts (start + length text) size (omega (arith, length-append text (concat texts))))

-- and a null's text is empty
NullsAreEmpty-slots : (column : List (Option (List ℕ))) (start : ℕ) → NullsAreEmpty start (ends_of start (slots [] column)) (map is_some column)
NullsAreEmpty-slots [] start = tt
NullsAreEmpty-slots (Some text ∷ column) start = NullsAreEmpty-slots column (start + length text)
NullsAreEmpty-slots (None ∷ column) start = (omega arith, NullsAreEmpty-slots column (start + 0))

-- what a column holds are parts
pub AreParts-held : (column : List (Option (List ℕ))) (ends bytes : List ℕ) (valid : List Bool) → HoldsTexts column ends bytes valid → AreParts ends bytes valid
AreParts-held column ends bytes valid holds =
    let texts = slots [] column in
    record {
      rising = rw (holds.ends_are, holds.bytes_are) (Rise-ends_of texts 0 (length (concat texts)) (omega arith));
      counted = rw holds.valid_are (HoldsTexts-length column ends bytes valid holds ∙ sym (length-map column is_some));
      empty = rw (holds.ends_are, holds.valid_are) (NullsAreEmpty-slots column 0);
    }
