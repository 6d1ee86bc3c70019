-- Where the texts of a part of a column end, and where they end once they are moved.
use Rattle.std.proofs.Common.{rules, tests, Bool, true, false, ◌&&◌, ◌≡◌, ◌∙◌, ℕ, ◌+◌, ◌-◌, ◌^◌, ◌%◌, ◌<◌, ◌≤◌, List, [], ◌∷◌, ◌++◌, length, map, take, drop, get_or, refl, sym, ap, arith, add-zero, length-append}
use Rattle.std.specs.List.{slice_range, concat, list_all}
use Rattle.std.proofs.lemmas.List.{take-append-drop, take-append-le, drop-append-le, append-nil, length-take, length-drop, take_more, map-append, get_or-drop, append_assoc}
use Rattle.std.proofs.lemmas.List.Folds.{drop_split}
use Rattle.sub_types.specs.PartLaws.{length-part}
use Rattle.col_text.specs.Text.{ends_of, offset_of, moves_below}
use Rattle.col_text.proofs.TextLaws.{length-ends_of, ends_of-append, slice-middle}

-- the ends of a part
pub ends_of-part : (texts : List (List ℕ)) (start a b : ℕ) → a ≤ b → b ≤ length texts → slice_range (ends_of start texts) a b ≡ ends_of (start + offset_of texts a) (slice_range texts a b)
ends_of-part texts start a b rising within =
    let middle = slice_range texts a b in
    let front = ends_of start (take a texts) in
    let place = start + offset_of texts a in
    let back = ends_of (place + length (concat middle)) (drop b texts) in
    let whole : texts ≡ take a texts ++ (middle ++ drop b texts) =
    sym (take-append-drop a texts) ∙ ap (λ (rest : List (List ℕ)). take a texts ++ rest) (drop_split texts a b rising) in
    let parts : ends_of start texts ≡ front ++ (ends_of place middle ++ back) =
    ap (ends_of start) whole ∙ ends_of-append start (take a texts) (middle ++ drop b texts) ∙ ap (λ (rest : List ℕ). front ++ rest) (ends_of-append place middle (drop b texts)) in
    let before : length front ≡ a = omega (arith, length-ends_of start (take a texts), length-take a texts) in
    let last : b ≡ a + length (ends_of place middle) = omega (arith, length-ends_of place middle, length-part texts a b within) in
    ap (λ ends. slice_range ends a b) parts
    ∙ ap (λ n. slice_range (front ++ (ends_of place middle ++ back)) a n) last
    ∙ slice-middle front (ends_of place middle) back a before

-- a number that wraps round, added to a number above the first
moved : (start begin x : ℕ) → start + x < 2 ^ 64 → begin + x < 2 ^ 64 → (begin + x + (start + (2 ^ 64 - begin)) % 2 ^ 64) % 2 ^ 64 ≡ start + x
moved start begin x fits within = omega arith

-- the ends of texts that begin elsewhere
pub ends_of-moved : (texts : List (List ℕ)) (start begin done : ℕ) → start + (done + length (concat texts)) < 2 ^ 64 → begin + (done + length (concat texts)) < 2 ^ 64
    → map (λ end. (end + (start + (2 ^ 64 - begin)) % 2 ^ 64) % 2 ^ 64) (ends_of (begin + done) texts) ≡ ends_of (start + done) texts
ends_of-moved [] start begin done fits within = refl
ends_of-moved (text ∷ texts) start begin done fits within =
    let shift = (start + (2 ^ 64 - begin)) % 2 ^ 64 in
    let size = length text in
    let whole = length-append text (concat texts) in
    let more : done + size + length (concat texts) ≡ done + length (text ++ concat texts) = omega (arith, whole) in
    let there : begin + done + size ≡ begin + (done + size) = omega arith in
    let here : start + (done + size) ≡ start + done + size = omega arith in
    let first : (begin + done + size + shift) % 2 ^ 64 ≡ start + done + size =
    ap (λ n. (n + shift) % 2 ^ 64) there ∙ moved start begin (done + size) (omega (arith, whole, fits)) (omega (arith, whole, within)) ∙ here in
    let rest = ends_of-moved texts start begin (done + size) (omega (arith, more, fits)) (omega (arith, more, within)) in
    ap (λ n. n ∷ map (λ end. (end + shift) % 2 ^ 64) (ends_of (begin + done + size) texts)) first
    ∙ ap (λ n. (start + done + size) ∷ map (λ end. (end + shift) % 2 ^ 64) (ends_of n texts)) there
    ∙ ap (λ ends. (start + done + size) ∷ ends) rest
    ∙ ap (λ n. (start + done + size) ∷ ends_of n texts) here

-- the same from the first text on
pub ends_of-moved_all : (texts : List (List ℕ)) (start begin : ℕ) → start + length (concat texts) < 2 ^ 64 → begin + length (concat texts) < 2 ^ 64
    → map (λ end. (end + (start + (2 ^ 64 - begin)) % 2 ^ 64) % 2 ^ 64) (ends_of begin texts) ≡ ends_of start texts
ends_of-moved_all texts start begin fits within =
    let shift = (start + (2 ^ 64 - begin)) % 2 ^ 64 in
    ap (λ n. map (λ end. (end + shift) % 2 ^ 64) (ends_of n texts)) (sym (add-zero begin)) ∙ ends_of-moved texts start begin 0 (omega arith) (omega arith) ∙ ap (λ n. ends_of n texts) (add-zero start)

-- a part and the number behind it
part_more : (xs : List ℕ) (a i : ℕ) → a ≤ i → i < length xs → slice_range xs a (i + 1) ≡ slice_range xs a i ++ get_or xs i 0 ∷ []
part_more xs a i rising below =
    let grown : i + 1 - a ≡ i - a + 1 = omega arith in
    let place : a + (i - a) ≡ i = omega arith in
    let room : i - a < length (drop a xs) = omega (arith, length-drop a xs) in
    ap (λ n. take n (drop a xs)) grown
    ∙ take_more (drop a xs) (i - a) 0 room
    ∙ ap (λ x. take (i - a) (drop a xs) ++ x ∷ []) (get_or-drop a xs (i - a) 0 ∙ ap (λ n. get_or xs n 0) place)

-- one more of a part is moved and added
pub one_more_moved : (old now new more : List ℕ) (from i end shift : ℕ) → from ≤ i → i < length more → end ≡ get_or more i 0
    → now ≡ old ++ map (λ x. (x + shift) % 2 ^ 64) (slice_range more from i) → new ≡ now ++ (end + shift) % 2 ^ 64 ∷ []
    → new ≡ old ++ map (λ x. (x + shift) % 2 ^ 64) (slice_range more from (i + 1))
one_more_moved old now new more from i end shift rising below is before grown =
    let f = λ (x : ℕ). (x + shift) % 2 ^ 64 in
    let part = slice_range more from i in
    grown
    ∙ ap (λ (xs : List ℕ). xs ++ f end ∷ []) before
    ∙ append_assoc old (map f part) (f end ∷ [])
    ∙ ap (λ (x : ℕ). old ++ (map f part ++ f x ∷ [])) is
    ∙ ap (λ (xs : List ℕ). old ++ xs) (sym (map-append f part (get_or more i 0 ∷ [])))
    ∙ ap (λ (xs : List ℕ). old ++ map f xs) (sym (part_more more from i rising below))

-- both tests
both_left : (a b : Bool) → (a && b) ≡ true → a ≡ true
both_left true b h = refl
both_left false b h = h

both_right : (a b : Bool) → (a && b) ≡ true → b ≡ true
both_right true b h = h
both_right false b h = absurd (cc)

-- a number that stays below 2^32 is moved by what is left of the shift
moved_short : (shift x : ℕ) → moves_below shift x ≡ true → (x + shift % 2 ^ 32) % 2 ^ 32 ≡ (x + shift) % 2 ^ 64
moved_short shift x below =
    let low : (x + shift) % 2 ^ 64 < 2 ^ 32 = search (rules, tests) in
    omega (arith, low)

all_moved_short : (shift : ℕ) (xs : List ℕ) → list_all (moves_below shift) xs ≡ true → map (λ x. (x + shift % 2 ^ 32) % 2 ^ 32) xs ≡ map (λ x. (x + shift) % 2 ^ 64) xs
all_moved_short shift [] below = refl
all_moved_short shift (x ∷ xs) below =
    ap (λ n. n ∷ map (λ k. (k + shift % 2 ^ 32) % 2 ^ 32) xs) (moved_short shift x (both_left (moves_below shift x) (list_all (moves_below shift) xs) below))
    ∙ ap (λ rest. ((x + shift) % 2 ^ 64) ∷ rest) (all_moved_short shift xs (both_right (moves_below shift x) (list_all (moves_below shift) xs) below))

-- a part of the front
part_of_front : (front back : List ℕ) (a b : ℕ) → a ≤ b → b ≤ length front → slice_range (front ++ back) a b ≡ slice_range front a b
part_of_front front back a b rising within =
    let room : b - a ≤ length (drop a front) = omega (arith, length-drop a front) in
    ap (take (b - a)) (drop-append-le a front back (omega arith)) ∙ take-append-le (b - a) (drop a front) back room

-- a list without items
pub no_items : (xs : List ℕ) → length xs ≡ 0 → xs ≡ []
no_items [] none = refl
no_items (x ∷ xs) none = absurd (omega arith)

-- a part of the narrow ends behind narrow ends
pub narrow_moved : (narrow wide more_narrow more_wide part : List ℕ) (from to shift : ℕ) → wide ≡ [] → from ≤ to → to ≤ length more_narrow → part ≡ slice_range more_narrow from to → list_all (moves_below shift) part ≡ true
    → (narrow ++ map (λ x. (x + shift % 2 ^ 32) % 2 ^ 32) part) ++ wide ≡ (narrow ++ wide) ++ map (λ x. (x + shift) % 2 ^ 64) (slice_range (more_narrow ++ more_wide) from to)
narrow_moved narrow wide more_narrow more_wide part from to shift none rising within is below =
    let grown = narrow ++ map (λ x. (x + shift % 2 ^ 32) % 2 ^ 32) part in
    let here : narrow ≡ narrow ++ wide = sym (append-nil narrow) ∙ ap (λ (xs : List ℕ). narrow ++ xs) (sym none) in
    ap (λ (xs : List ℕ). grown ++ xs) none ∙ append-nil grown
    ∙ ap (λ (xs : List ℕ). narrow ++ xs) (all_moved_short shift part below)
    ∙ ap (λ (xs : List ℕ). narrow ++ map (λ x. (x + shift) % 2 ^ 64) xs) (is ∙ sym (part_of_front more_narrow more_wide from to rising within))
    ∙ ap (λ (xs : List ℕ). xs ++ map (λ x. (x + shift) % 2 ^ 64) (slice_range (more_narrow ++ more_wide) from to)) here
