-- Texts that stand one after the other, and where they begin and end.
use Rattle.std.proofs.Common.{◌≡◌, ◌∙◌, ℕ, zero, suc, ◌+◌, ◌-◌, ◌<◌, ◌≤◌, List, [], ◌∷◌, ◌++◌, length, get_or, refl, sym, ap, arith, append_assoc, length-append}
use Rattle.std.specs.List.{flat_map, slice_range}
use Rattle.std.proofs.lemmas.List.{take_at, drop_at}
use Rattle.byteorder.specs.Endian.{little_bytes}
use Rattle.arrow_meta.specs.Buffers.{text_ends}

-- the texts one after the other
abbrev pub joined : List (List ℕ) → List ℕ
joined texts = flat_map (λ text. text) texts

-- where each begins, and where the last ends
abbrev pub bounds : ℕ → List (List ℕ) → List ℕ
bounds start [] = start ∷ []
bounds start (text ∷ texts) = start ∷ bounds (start + length text) texts

pub length-bounds : (start : ℕ) (texts : List (List ℕ)) → length (bounds start texts) ≡ suc (length texts)
length-bounds start [] = refl
length-bounds start (text ∷ texts) = ap (λ n. suc n) (length-bounds (start + length text) texts)

pub bounds_bytes : (start : ℕ) (texts : List (List ℕ)) → little_bytes 4 start ++ text_ends start texts ≡ flat_map (little_bytes 4) (bounds start texts)
bounds_bytes start [] = refl
bounds_bytes start (text ∷ texts) = ap (λ rest. little_bytes 4 start ++ rest) (bounds_bytes (start + length text) texts)

bound_first : (start : ℕ) (texts : List (List ℕ)) → get_or (bounds start texts) 0 0 ≡ start
bound_first start [] = refl
bound_first start (text ∷ texts) = refl

-- a bound lies between the first and the last
pub bound_low : (start : ℕ) (texts : List (List ℕ)) (k : ℕ) → k ≤ length texts → get_or (bounds start texts) k 0 ≤ start + length (joined texts)
bound_low start [] zero below = omega arith
bound_low start [] (suc k) below = absurd (omega arith)
bound_low start (text ∷ texts) zero below = omega arith
bound_low start (text ∷ texts) (suc k) below =
    let rest = bound_low (start + length text) texts k (omega arith) in
    let long = length-append text (joined texts) in omega (arith, rest, long)

-- bounds rise
pub bound_rises : (start : ℕ) (texts : List (List ℕ)) (k : ℕ) → k < length texts → get_or (bounds start texts) k 0 ≤ get_or (bounds start texts) (suc k) 0
bound_rises start [] k below = absurd (omega arith)
bound_rises start (text ∷ texts) zero below = let first = bound_first (start + length text) texts in omega (arith, first)
bound_rises start (text ∷ texts) (suc k) below = bound_rises (start + length text) texts k (omega arith)

-- the text between two bounds
pub piece_at : (start : ℕ) (before : List ℕ) (texts : List (List ℕ)) (k : ℕ) (d : List ℕ) → length before ≡ start → k < length texts
    → slice_range (before ++ joined texts) (get_or (bounds start texts) k 0) (get_or (bounds start texts) (suc k) 0) ≡ get_or texts k d
piece_at start before [] k d long below = absurd (omega arith)
piece_at start before (text ∷ texts) zero d long below =
    let first = bound_first (start + length text) texts in
    let size : start + length text - start ≡ length text = omega arith in
    rw (first, drop_at before (text ++ joined texts) start long, size) (take_at text (joined texts) (length text) refl)
piece_at start before (text ∷ texts) (suc k) d long below =
    let all = append_assoc before text (joined texts) in
    let longer : length (before ++ text) ≡ start + length text = length-append before text ∙ ap (λ n. n + length text) long in
    let bs = bounds (start + length text) texts in
    ap (λ bytes. slice_range bytes (get_or bs k 0) (get_or bs (suc k) 0)) (sym all) ∙ piece_at (start + length text) (before ++ text) texts k d longer (omega arith)
