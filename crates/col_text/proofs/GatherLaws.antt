-- The values at some places of a column.
use Rattle.std.proofs.Common.{◌≡◌, ◌∙◌, ℕ, zero, suc, ◌+◌, ◌<◌, ◌≤◌, List, [], ◌∷◌, ◌++◌, Bool, true, false, Option, None, unwrap_or, is_some, length, map, take, get_or, All, refl, sym, ap, arith, zero-add, replicate}
use Rattle.std.specs.List.{slice_range, concat}
use Rattle.std.proofs.lemmas.List.{take_more, map-append, length-map, append-nil, get_or-map, get_or-replicate}
use Rattle.sub_types.specs.Slots.{slots, length-slots}
use Rattle.sub_types.specs.PartLaws.{part-map, get_or-part, length-part}
use Rattle.col_text.specs.Text.{ends_of, picked, values_at, texts_at, HoldsTexts}
use Rattle.col_text.proofs.TextLaws.{concat-append, ends_of-append, concat-one}

-- a value as it is stored
slot_at : (column : List (Option (List ℕ))) (i : ℕ) → unwrap_or (get_or column i None) [] ≡ get_or (slots [] column) i []
slot_at [] i = refl
slot_at (value ∷ column) zero = refl
slot_at (value ∷ column) (suc i) = slot_at column i

-- the texts of the values
pub slots-values_at : (column : List (Option (List ℕ))) (at : List ℕ) → slots [] (values_at column at) ≡ texts_at column at
slots-values_at column [] = refl
slots-values_at column (i ∷ at) = ap (λ text. text ∷ slots [] (values_at column at)) (slot_at column i) ∙ ap (λ rest. get_or (slots [] column) i [] ∷ rest) (slots-values_at column at)

-- one text of a part of a column
pub text_of_part : (column part : List (Option (List ℕ))) (from len i : ℕ) → from + len ≤ length column → slice_range column from (from + len) ≡ part → i < length part
    → concat (slice_range (slots [] column) (from + i) (from + i + 1)) ≡ get_or (slots [] part) i []
text_of_part column part from len i within is below =
    let texts = slots [] column in
    let long = length-part column from (from + len) within in
    let inside : i < len = omega (arith, ap length is, long) in
    let same : slice_range texts from (from + len) ≡ slots [] part = part-map (λ value. unwrap_or value []) column from (from + len) ∙ ap (slots []) is in
    concat-one texts (from + i) (omega (arith, length-slots [] column)) ∙ sym (get_or-part texts from (from + len) i [] (omega arith)) ∙ ap (λ xs. get_or xs i []) same

-- the texts of one place more
pub picked-more : (texts : List (List ℕ)) (at : List ℕ) (k : ℕ) → k < length at → picked texts (take (k + 1) at) ≡ picked texts (take k at) ++ get_or texts (get_or at k 0) [] ∷ []
picked-more texts at k below =
    let pick = λ (i : ℕ). get_or texts i [] in
    ap (map pick) (take_more at k 0 below) ∙ map-append pick (take k at) (get_or at k 0 ∷ [])

pub texts_at-more : (column : List (Option (List ℕ))) (at : List ℕ) (k : ℕ) → k < length at → texts_at column (take (k + 1) at) ≡ texts_at column (take k at) ++ get_or (slots [] column) (get_or at k 0) [] ∷ []
texts_at-more column = picked-more (slots [] column)

-- one text more
pub ends_of-push : (texts : List (List ℕ)) (text : List ℕ) (end : ℕ) → end ≡ length (concat texts) → ends_of 0 (texts ++ text ∷ []) ≡ ends_of 0 texts ++ (end + length text) ∷ []
ends_of-push texts text end is = ends_of-append 0 texts (text ∷ []) ∙ ap (λ n. ends_of 0 texts ++ (n + length text) ∷ []) (zero-add (length (concat texts)) ∙ sym is)

pub concat-push : (texts : List (List ℕ)) (text : List ℕ) → concat (texts ++ text ∷ []) ≡ concat texts ++ text
concat-push texts text = concat-append texts (text ∷ []) ∙ ap (λ (t : List ℕ). concat texts ++ t) (append-nil text)

-- the parts that hold the values at some places
pub gathered : (column : List (Option (List ℕ))) (at ends bytes : List ℕ) (valid : List Bool) → ends ≡ ends_of 0 (texts_at column at) → bytes ≡ concat (texts_at column at) → valid ≡ map is_some (values_at column at)
    → HoldsTexts (values_at column at) ends bytes valid
gathered column at ends bytes valid ends_are bytes_are valid_are =
    let texts = sym (slots-values_at column at) in
    record {
      ends_are = ends_are ∙ ap (ends_of 0) texts;
      bytes_are = bytes_are ∙ ap concat texts;
      valid_are = valid_are;
    }

-- which bit tells of a value of a part
pub bit_of_part : (part : List (Option (List ℕ))) (valid : List Bool) (from to i : ℕ) → to ≤ length valid → slice_range valid from to ≡ map is_some part → i < length part → get_or valid (from + i) false ≡ is_some (get_or part i None)
bit_of_part part valid from to i within is below =
    let long : length (slice_range valid from to) ≡ length part = ap length is ∙ length-map part is_some in
    sym (get_or-part valid from to i false (omega (arith, long, length-part valid from to within))) ∙ ap (λ bits. get_or bits i false) is ∙ get_or-map is_some part i None false below

-- the bits at some places
pub bits_at : (part : List (Option (List ℕ))) (valid : List Bool) (at : List ℕ) → ((i : ℕ) → i < length part → get_or valid i false ≡ is_some (get_or part i None)) → All (λ i. i < length part) at
    → map (λ i. get_or valid i false) at ≡ map is_some (values_at part at)
bits_at part valid [] same all = refl
bits_at part valid (i ∷ at) same all =
    let first : i < length part = all zero 0 (omega arith) in
    ap (λ b. b ∷ map (λ k. get_or valid k false) at) (same i first) ∙ ap (λ rest. is_some (get_or part i None) ∷ rest) (bits_at part valid at same (λ k d h. all (suc k) d (omega arith)))

-- where all bits are set
pub all_bits_at : (valid : List Bool) (at : List ℕ) → valid ≡ replicate (length valid) true → All (λ i. i < length valid) at → replicate (length at) true ≡ map (λ i. get_or valid i false) at
all_bits_at valid [] set all = refl
all_bits_at valid (i ∷ at) set all =
    let first : i < length valid = all zero 0 (omega arith) in
    let here : get_or valid i false ≡ true = ap (λ bits. get_or bits i false) set ∙ get_or-replicate (length valid) i true false first in
    ap (λ rest. true ∷ rest) (all_bits_at valid at set (λ k d h. all (suc k) d (omega arith))) ∙ ap (λ b. b ∷ map (λ k. get_or valid k false) at) (sym here)

-- the bits of a part that begins where the column does
pub bits_at_front : (part : List (Option (List ℕ))) (valid : List Bool) (at : List ℕ) (from to : ℕ) → from ≤ 0 → to ≤ length valid → slice_range valid from to ≡ map is_some part → All (λ i. i < length part) at
    → map (λ i. get_or valid i false) at ≡ map is_some (values_at part at)
bits_at_front part valid at from to front within is all =
    bits_at part valid at (λ i below. let place : i ≡ from + i = omega arith in ap (λ n. get_or valid n false) place ∙ bit_of_part part valid from to i within is below) all

pub all_bits_at_front : (part : List (Option (List ℕ))) (valid : List Bool) (at : List ℕ) (from to : ℕ) → from ≤ 0 → to ≤ length valid → slice_range valid from to ≡ map is_some part → All (λ i. i < length part) at
    → valid ≡ replicate (length valid) true → replicate (length at) true ≡ map is_some (values_at part at)
all_bits_at_front part valid at from to front within is all set =
    let long : length (slice_range valid from to) ≡ length part = ap length is ∙ length-map part is_some in
    let inside = length-part valid from to within in
    all_bits_at valid at set (λ k d h. let here = all k d h in omega (arith, here, long, inside)) ∙ bits_at_front part valid at from to front within is all

-- the bits of a part of its own
pub bits_at_part : (part : List (Option (List ℕ))) (valid bits : List Bool) (at : List ℕ) (from to : ℕ) → bits ≡ slice_range valid from to → slice_range valid from to ≡ map is_some part → All (λ i. i < length part) at
    → map (λ i. get_or bits i false) at ≡ map is_some (values_at part at)
bits_at_part part valid bits at from to copied is all =
    bits_at part bits at (λ i below. ap (λ (all_bits : List Bool). get_or all_bits i false) (copied ∙ is) ∙ get_or-map is_some part i None false below) all

-- where there is no value
pub nothing_past : {X : Type 0} (xs : List X) (i : ℕ) (d : X) → length xs ≤ i → get_or xs i d ≡ d
nothing_past [] i d past = refl
nothing_past (x ∷ xs) zero d past = absurd (omega arith)
nothing_past (x ∷ xs) (suc i) d past = nothing_past xs i d (omega arith)

pub no_text_past : (column : List (Option (List ℕ))) (i : ℕ) → length column ≤ i → [] ≡ get_or (slots [] column) i []
no_text_past column i past = sym (nothing_past (slots [] column) i [] (omega (arith, length-slots [] column)))

-- the bit of one place more
pub validity-more : (part : List (Option (List ℕ))) (at : List ℕ) (k : ℕ) → k < length at → map is_some (values_at part (take (k + 1) at)) ≡ map is_some (values_at part (take k at)) ++ is_some (get_or part (get_or at k 0) None) ∷ []
validity-more part at k below =
    ap (λ places. map is_some (values_at part places)) (take_more at k 0 below) ∙ ap (map is_some) (map-append (λ i. get_or part i None) (take k at) (get_or at k 0 ∷ []))
    ∙ map-append is_some (values_at part (take k at)) (get_or part (get_or at k 0) None ∷ [])

-- one value, as often as it is asked for
pub same_value : (value : Option (List ℕ)) (n : ℕ) → values_at (value ∷ []) (replicate n 0) ≡ replicate n value
same_value value zero = refl
same_value value (suc n) = ap (λ rest. value ∷ rest) (same_value value n)
