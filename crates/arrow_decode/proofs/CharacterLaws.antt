-- UTF-8 of texts that stand one behind the other.
use Rattle.std.proofs.Common.{rules, tests, ◌≡◌, ◌∙◌, ◌↔◌, ℕ, zero, suc, ◌+◌, ◌<◌, ◌≤◌, List, [], ◌∷◌, ◌++◌, length, take, Bool, true, false, Option, Some, None, IsTrue, refl, sym, subst, arith, length-append, slice_index}
use Rattle.std.specs.Char.{is_ascii}
use Rattle.std.specs.List.{concat, list_all}
use Rattle.std.specs.Str.{IsUtf8, is_utf8, IsAscii, IsCharBoundary}
use Rattle.std.proofs.lemmas.Bool.{false_from_ne_true}
use Rattle.std.proofs.lemmas.List.{take_at, drop_at, append-nil, get_or-append-add}
use Rattle.std.proofs.lemmas.Str.{IsUtf8-nil, IsUtf8-append, IsUtf8-take, IsUtf8-drop, IsUtf8-from_is_utf8, is_utf8-from_IsUtf8, IsCharBoundary-end, IsCharBoundary-start, IsCharBoundary-from_ascii}
use Rattle.sub_types.specs.Slots.{slots}
use Rattle.col_text.specs.Text.{offset_of}
use Rattle.arrow_meta.specs.Values.{is_text}
use Rattle.arrow_decode.specs.Characters.{BeginAtCharacters}
use Rattle.arrow_decode.proofs.ListLaws.{and_left, and_right}

-- texts one behind the other are a text
pub joined_utf8 : (column : List (Option (List ℕ))) → list_all is_text column ≡ true → IsUtf8 (concat (slots [] column))
joined_utf8 [] all = IsUtf8-nil
joined_utf8 (None ∷ column) all = joined_utf8 column all
joined_utf8 (Some text ∷ column) all =
    IsUtf8-append text (concat (slots [] column)) (IsUtf8-from_is_utf8 text (and_left (is_utf8 text) (list_all is_text column) all)) (joined_utf8 column (and_right (is_utf8 text) (list_all is_text column) all))

-- a place behind a text
boundary_behind : (front back : List ℕ) (i : ℕ) → IsCharBoundary back i → IsCharBoundary (front ++ back) (length front + i)
boundary_behind front back i at =
    (omega (arith, length-append front back, at.0), λ below high. let here = get_or-append-add front back i 0 in let low : i < length back = omega (arith, length-append front back) in let same : slice_index (front ++ back) (length front + i) ≡ slice_index back i = here in omega (arith, same, at.1 low (omega (arith, same, high))))

boundary_before : (front back : List ℕ) (i : ℕ) → IsCharBoundary (front ++ back) (length front + i) → IsCharBoundary back i
boundary_before front back i at =
    (omega (arith, length-append front back, at.0), λ below high. let here = get_or-append-add front back i 0 in let low : length front + i < length (front ++ back) = omega (arith, length-append front back) in let same : slice_index (front ++ back) (length front + i) ≡ slice_index back i = here in omega (arith, same, at.1 low (omega (arith, same, high))))

-- where a text begins behind the first
offset_behind : (text : List ℕ) (texts : List (List ℕ)) (i : ℕ) → offset_of (text ∷ texts) (suc i) ≡ length text + offset_of texts i
offset_behind text texts i = length-append text (concat (take i texts))

-- and each begins at a character
pub texts_begin : (column : List (Option (List ℕ))) → list_all is_text column ≡ true → BeginAtCharacters column
texts_begin [] all i below = absurd (omega arith)
texts_begin (value ∷ column) all zero below = IsCharBoundary-start (concat (slots [] (value ∷ column))) (joined_utf8 (value ∷ column) all)
texts_begin (None ∷ column) all (suc i) below = texts_begin column all i (omega arith)
texts_begin (Some text ∷ column) all (suc i) below =
    let rest = boundary_behind text (concat (slots [] column)) (offset_of (slots [] column) i) (texts_begin column (and_right (is_utf8 text) (list_all is_text column) all) i (omega arith)) in
    let P : ℕ → Type 0 = λ n. IsCharBoundary (text ++ concat (slots [] column)) n in
    subst P (sym (offset_behind text (slots [] column) i)) rest

-- where a text ends
end_of_first : (text : List ℕ) (column : List (Option (List ℕ))) → BeginAtCharacters (Some text ∷ column) → IsCharBoundary (text ++ concat (slots [] column)) (length text)
end_of_first text [] begin =
    let P : List ℕ → Type 0 = λ bytes. IsCharBoundary bytes (length text) in
    subst P (sym (append-nil text)) (IsCharBoundary-end text)
end_of_first text (value ∷ column) begin =
    let P : ℕ → Type 0 = λ n. IsCharBoundary (text ++ concat (slots [] (value ∷ column))) n in
    let none : length text + 0 ≡ length text = omega arith in
    subst P (offset_behind text (slots [] (value ∷ column)) 0 ∙ none) (begin 1 (omega arith))

-- a text that is cut at characters is texts
pub texts_cut : (column : List (Option (List ℕ))) → IsUtf8 (concat (slots [] column)) → BeginAtCharacters column → list_all is_text column ≡ true
texts_cut [] whole begin = refl
texts_cut (None ∷ column) whole begin = texts_cut column whole (λ i below. begin (suc i) (omega arith))
texts_cut (Some text ∷ column) whole begin =
    let back = concat (slots [] column) in
    let end = end_of_first text column begin in
    let first : IsUtf8 text = let P : List ℕ → Type 0 = λ bytes. IsUtf8 bytes in subst P (take_at text back (length text) refl) (IsUtf8-take (text ++ back) (length text) whole end) in
    let others : IsUtf8 back = let P : List ℕ → Type 0 = λ bytes. IsUtf8 bytes in subst P (drop_at text back (length text) refl) (IsUtf8-drop (text ++ back) (length text) whole end) in
    let later : BeginAtCharacters column = λ i below.
    let P : ℕ → Type 0 = λ n. IsCharBoundary (text ++ back) n in
    boundary_before text back (offset_of (slots [] column) i) (subst P (offset_behind text (slots [] column) i) (begin (suc i) (omega arith))) in
    rw (is_utf8-from_IsUtf8 text first, texts_cut column others later) refl

-- the test of both
pub same_texts : (column : List (Option (List ℕ))) (b : Bool) → IsUtf8 (concat (slots [] column)) → (IsTrue b ↔ BeginAtCharacters column) → b ≡ list_all is_text column
same_texts column true whole test = sym (texts_cut column whole (test.0 refl))
same_texts column false whole test = sym (false_from_ne_true (list_all is_text column) (λ all. let h : IsTrue false = test.1 (texts_begin column all) in cc))

pub no_texts : (column : List (Option (List ℕ))) → ¬ (IsUtf8 (concat (slots [] column))) → false ≡ list_all is_text column
no_texts column broken = sym (false_from_ne_true (list_all is_text column) (λ all. broken (joined_utf8 column all)))

-- no text begins behind all of them
offset_within : (texts : List (List ℕ)) (i : ℕ) → offset_of texts i ≤ length (concat texts)
offset_within texts zero = omega arith
offset_within [] (suc i) = omega arith
offset_within (text ∷ texts) (suc i) =
    let rest = offset_within texts i in
    let behind = offset_behind text texts i in
    let whole = length-append text (concat texts) in
    omega (arith, rest, behind, whole)

each_ascii : (bytes : List ℕ) → list_all is_ascii bytes ≡ true → IsAscii bytes
each_ascii [] all i = omega arith
each_ascii (byte ∷ bytes) all zero = search (rules, tests, and_left (is_ascii byte) (list_all is_ascii bytes) all)
each_ascii (byte ∷ bytes) all (suc i) = each_ascii bytes (and_right (is_ascii byte) (list_all is_ascii bytes) all) i

-- in ASCII a character begins anywhere
pub begin_in_ascii : (column : List (Option (List ℕ))) → list_all is_ascii (concat (slots [] column)) ≡ true → BeginAtCharacters column
begin_in_ascii column all i below =
    let bytes = concat (slots [] column) in
    IsCharBoundary-from_ascii bytes (offset_of (slots [] column) i) (each_ascii bytes all) (offset_within (slots [] column) i)
