-- Texts between ends that are lent, and those at some places of them.
use Rattle.std.proofs.Common.{◌≡◌, ◌∙◌, ℕ, zero, suc, ◌+◌, ◌-◌, ◌<◌, ◌≤◌, ◌^◌, ◌%◌, List, [], ◌∷◌, ◌++◌, length, take, drop, get_or, refl, sym, ap, arith, zero-add, length-append}
use Rattle.std.specs.List.{slice_range, concat}
use Rattle.std.proofs.lemmas.List.{take-take, length-take-le}
use Rattle.std.proofs.Math.Seq.{take-append-add}
use Rattle.col_text.specs.Text.{ends_of, offset_of, pieces, picked, Rise}
use Rattle.col_text.proofs.TextLaws.{concat-append, take-between, pieces-ends_of}
use Rattle.col_text.proofs.PartsLaws.{Rise-le, Rise-ends_of, length-pieces}
use Rattle.col_text.proofs.EndLaws.{ends_of-part}
use Rattle.col_text.proofs.GatherLaws.{nothing_past, picked-more, ends_of-push, concat-push}

-- the text at a place lies between the end before it and its own
pub piece_at : (start : ℕ) (ends bytes : List ℕ) (i : ℕ) → Rise start ends (length bytes) → i < length ends
    → (get_or (start ∷ ends) i 0 ≤ get_or ends i 0) × ((get_or ends i 0 ≤ length bytes) × (slice_range bytes (get_or (start ∷ ends) i 0) (get_or ends i 0) ≡ get_or (pieces start ends bytes) i []))
piece_at start [] bytes i rising below = absurd (omega arith)
piece_at start (end ∷ ends) bytes zero rising below = (rising.0, (Rise-le end ends (length bytes) rising.1, refl))
piece_at start (end ∷ ends) bytes (suc i) rising below = piece_at end ends bytes i rising.1 (omega arith)

-- and is what its length says of the bytes from there on
pub piece_from : (start : ℕ) (ends bytes : List ℕ) (i begin : ℕ) → Rise start ends (length bytes) → i < length ends → begin ≡ get_or (start ∷ ends) i 0
    → take (get_or ends i 0 - begin) (take (length bytes - begin) (drop begin bytes)) ≡ get_or (pieces start ends bytes) i []
piece_from start ends bytes i begin rising below is =
    let end = get_or ends i 0 in
    let place = piece_at start ends bytes i rising below in
    take-take (end - begin) (length bytes - begin) (drop begin bytes) (omega (arith, place.1.0)) ∙ ap (λ n. slice_range bytes n end) is ∙ place.1.1

-- no text stands past the last
pub no_piece_past : (start : ℕ) (ends bytes : List ℕ) (i : ℕ) → length ends ≤ i → [] ≡ get_or (pieces start ends bytes) i []
no_piece_past start ends bytes i past = sym (nothing_past (pieces start ends bytes) i [] (omega (arith, length-pieces start ends bytes)))

-- a block that was added is cut to its first bytes
pub block_cut : (old more grown cut : List ℕ) (n size block : ℕ) → grown ≡ old ++ take block more → cut ≡ take n grown → n ≡ length old + size → size ≤ block → cut ≡ old ++ take size more
block_cut old more grown cut n size block added cut_is is within =
    cut_is ∙ ap (take n) added ∙ ap (λ k. take k (old ++ take block more)) is ∙ take-append-add old (take block more) size ∙ ap (λ (xs : List ℕ). old ++ xs) (take-take size block more within)

-- as many bytes are taken as the text has
pub size_taken : (bytes text : List ℕ) (size : ℕ) → size ≤ length bytes → take size bytes ≡ text → size ≡ length text
size_taken bytes text size within is = sym (length-take-le size bytes within) ∙ ap length is

-- the end of one text more, as long as it is below 2^32
pub next_end : (texts : List (List ℕ)) (at ends grown : List ℕ) (k end size next : ℕ) → k < length at → size ≡ length (get_or texts (get_or at k 0) []) → next ≡ end + size → next < 2 ^ 32
    → ends ≡ ends_of 0 (picked texts (take k at)) → end ≡ length (concat (picked texts (take k at))) → grown ≡ ends ++ next % 2 ^ 32 ∷ []
    → (grown ≡ ends_of 0 (picked texts (take (k + 1) at))) × (next ≡ length (concat (picked texts (take (k + 1) at))))
next_end texts at ends grown k end size next below size_is next_is low ends_are end_is grown_is =
    let before = picked texts (take k at) in
    let text = get_or texts (get_or at k 0) [] in
    let more = picked-more texts at k below in
    let place : next % 2 ^ 32 ≡ end + length text = omega arith in (
      grown_is ∙ ap (λ (xs : List ℕ). xs ++ next % 2 ^ 32 ∷ []) ends_are ∙ ap (λ n. ends_of 0 before ++ n ∷ []) place ∙ sym (ap (ends_of 0) more ∙ ends_of-push before text end end_is),
      omega (arith, next_is, end_is, size_is, ap (λ (all : List (List ℕ)). length (concat all)) more, ap length (concat-push before text), length-append (concat before) text),
    )

-- the ends and the bytes of a part
part_ends : (texts : List (List ℕ)) (from to first : ℕ) (ends : List ℕ) → from ≤ to → to ≤ length texts → first ≡ offset_of texts from → ends ≡ slice_range (ends_of 0 texts) from to
    → ends ≡ ends_of first (slice_range texts from to)
part_ends texts from to first ends rising within first_is ends_are =
    ends_are ∙ ends_of-part texts 0 from to rising within ∙ ap (λ n. ends_of n (slice_range texts from to)) (zero-add (offset_of texts from) ∙ sym first_is)

part_bytes : (texts : List (List ℕ)) (from to : ℕ) (bytes : List ℕ) → from ≤ to → to ≤ length texts → bytes ≡ concat (slice_range texts 0 to)
    → bytes ≡ concat (take from texts) ++ concat (slice_range texts from to)
part_bytes texts from to bytes rising within bytes_are =
    let all : to - 0 ≡ to = omega arith in
    bytes_are ∙ ap (λ n. concat (take n texts)) all ∙ ap concat (take-between texts from to rising within) ∙ concat-append (take from texts) (slice_range texts from to)

-- they are those of texts
pub part_rises : (texts : List (List ℕ)) (from to first : ℕ) (ends bytes : List ℕ) → from ≤ to → to ≤ length texts → first ≡ offset_of texts from → ends ≡ slice_range (ends_of 0 texts) from to → bytes ≡ concat (slice_range texts 0 to)
    → Rise first ends (length bytes)
part_rises texts from to first ends bytes rising within first_is ends_are bytes_are =
    let middle = slice_range texts from to in
    let whole = ap length (part_bytes texts from to bytes rising within bytes_are) ∙ length-append (concat (take from texts)) (concat middle) in
    rw (part_ends texts from to first ends rising within first_is ends_are) (Rise-ends_of middle first (length bytes) (omega (arith, first_is, whole)))

-- and these texts are the part's
pub part_pieces : (texts : List (List ℕ)) (from to first : ℕ) (ends bytes : List ℕ) → from ≤ to → to ≤ length texts → first ≡ offset_of texts from → ends ≡ slice_range (ends_of 0 texts) from to → bytes ≡ concat (slice_range texts 0 to)
    → pieces first ends bytes ≡ slice_range texts from to
part_pieces texts from to first ends bytes rising within first_is ends_are bytes_are =
    let middle = slice_range texts from to in
    ap (λ places. pieces first places bytes) (part_ends texts from to first ends rising within first_is ends_are)
    ∙ ap (pieces first (ends_of first middle)) (part_bytes texts from to bytes rising within bytes_are)
    ∙ pieces-ends_of middle first (concat (take from texts)) (sym first_is)
