-- What is said in pieces.
use Rattle.std.proofs.Common.{◌≡◌, ◌∙◌, sym, ap, refl, ℕ, ◌+◌, ◌<◌, List, [], ◌∷◌, ◌++◌, length, take, drop, get_or, Option, Some, None, append_assoc, append-nil, Bor, arith, decimal, codes}
use Rattle.std.specs.Option.{option_map_or, option_to_list}
use Rattle.std.specs.List.{flat_map}
use Rattle.std.proofs.Common.{inl, inr}
use Rattle.std.proofs.lemmas.Bool.{cases_lt}
use Rattle.std.proofs.Math.Seq.{take-append-add}
use Rattle.std.proofs.lemmas.List.{take_more, take_all, take-append-le, take-append-drop}
use Rattle.std.proofs.lemmas.List.Concat.{flat_map-append}
use Rattle.world.specs.Notes.{said}
use Rattle.std.proofs.Common.{subst}
use Rattle.run_words.specs.Said.{IsSaid}
use Rattle.run_words.specs.Lines.{named_text, told_text}

pub said-said : (text : Option (List ℕ)) (a b : List ℕ) → said (said text a) b ≡ said text (a ++ b)
unfolding said
said-said None a b = refl
said-said (Some told) a b = ap Some (append_assoc told a b)

pub said-nothing : (text : Option (List ℕ)) → said text [] ≡ text
unfolding said
said-nothing None = refl
said-nothing (Some told) = ap Some (append-nil told)

pub one_piece : (a : List ℕ) → a ++ [] ≡ a
one_piece a = append-nil a

pub three_pieces : (a b c : List ℕ) → a ++ (b ++ (c ++ [])) ≡ a ++ b ++ c
three_pieces a b c = ap (λ rest. a ++ (b ++ rest)) (append-nil c) ∙ sym (append_assoc a b c)

-- a number after a space, where it is there
numbered : (n : Option ℕ) (rest : List ℕ) → option_map_or (λ _. 32 ∷ []) n [] ++ (option_map_or decimal n [] ++ rest) ≡ flat_map (λ m. 32 ∷ decimal m) (option_to_list n) ++ rest
numbered None rest = refl
numbered (Some n) rest = sym (ap (λ x. x ++ rest) (append-nil (32 ∷ decimal n)))

-- the numbers, each after a space
abbrev spaced : List ℕ → List ℕ
spaced numbers = flat_map (λ m. 32 ∷ decimal m) numbers

regrouped : (start digits middle name first second end : List ℕ) → start ++ (digits ++ (middle ++ (name ++ (first ++ (second ++ (end ++ [])))))) ≡ start ++ digits ++ middle ++ (name ++ (first ++ second)) ++ end
regrouped start digits middle name first second end = simp (append_assoc, append-nil)

pub told_pieces : (start middle name : List ℕ) (number : ℕ) (first second : Option ℕ) →
    start ++ (decimal number ++ (middle ++ (name ++ (option_map_or (λ _. 32 ∷ []) first [] ++ (option_map_or decimal first [] ++ (option_map_or (λ _. 32 ∷ []) second [] ++ (option_map_or decimal second [] ++ (codes "\n" ++ []))))))))
    ≡ told_text start number middle (record { name = name; numbers = option_to_list first ++ option_to_list second })
unfolding named_text
told_pieces start middle name number first second =
    let end = codes "\n" ++ [] in
    ap (λ rest. start ++ (decimal number ++ (middle ++ (name ++ rest))))
    (numbered first (option_map_or (λ _. 32 ∷ []) second [] ++ (option_map_or decimal second [] ++ end)) ∙ ap (λ rest. spaced (option_to_list first) ++ rest) (numbered second end))
    ∙ regrouped start (decimal number) middle name (spaced (option_to_list first)) (spaced (option_to_list second)) (codes "\n")
    ∙ ap (λ numbers. start ++ decimal number ++ middle ++ (name ++ numbers) ++ codes "\n") (sym (flat_map-append (λ m. 32 ∷ decimal m) (option_to_list first) (option_to_list second)))

-- what the pieces say
abbrev pub pieces_text : List (Bor (List ℕ)) → List ℕ
pieces_text pieces = flat_map (λ piece. piece.now) pieces

-- one piece more
pub pieces_more : (pieces : List (Bor (List ℕ))) (i : ℕ) (d : Bor (List ℕ)) → i < length pieces → pieces_text (take (i + 1) pieces) ≡ pieces_text (take i pieces) ++ (get_or pieces i d).now
pieces_more pieces i d below =
    ap pieces_text (take_more pieces i d below) ∙ flat_map-append (λ piece. piece.now) (take i pieces) (get_or pieces i d ∷ [])
    ∙ ap (λ last. pieces_text (take i pieces) ++ last) (append-nil (get_or pieces i d).now)

-- the bytes that are kept of a piece before others
kept : (piece rest : List ℕ) (k : ℕ) → (j : ℕ) × (take j (piece ++ rest) ≡ take k piece)
kept piece rest k = elim (cases_lt k (length piece)) [
  | inl within ↦ (k, take-append-le k piece rest (omega arith))
  | inr beyond ↦ (length piece, take-append-le (length piece) piece rest (omega arith) ∙ take_all (length piece) piece (omega arith) ∙ sym (take_all k piece (omega arith)))
]

-- the text of the pieces from a place on
text_from : (pieces : List (Bor (List ℕ))) (i : ℕ) (d : Bor (List ℕ)) → i < length pieces → pieces_text pieces ≡ pieces_text (take i pieces) ++ ((get_or pieces i d).now ++ pieces_text (drop (i + 1) pieces))
text_from pieces i d below =
    ap pieces_text (sym (take-append-drop (i + 1) pieces)) ∙ flat_map-append (λ piece. piece.now) (take (i + 1) pieces) (drop (i + 1) pieces)
    ∙ ap (λ front. front ++ pieces_text (drop (i + 1) pieces)) (pieces_more pieces i d below) ∙ append_assoc (pieces_text (take i pieces)) (get_or pieces i d).now (pieces_text (drop (i + 1) pieces))

-- what was said before a piece that wasn't said whole, and of it, is a part of the whole
pub part_of : (pieces : List (Bor (List ℕ))) (i k : ℕ) (d : Bor (List ℕ)) → i < length pieces → (n : ℕ) × (take n (pieces_text pieces) ≡ pieces_text (take i pieces) ++ take k (get_or pieces i d).now)
part_of pieces i k d below =
    let front = pieces_text (take i pieces) in
    let part = kept (get_or pieces i d).now (pieces_text (drop (i + 1) pieces)) k in
    (length front + part.0, ap (take (length front + part.0)) (text_from pieces i d below) ∙ take-append-add front ((get_or pieces i d).now ++ pieces_text (drop (i + 1) pieces)) part.0 ∙ ap (λ p. front ++ p) part.1)

-- the piece that stands at a place
abbrev pub piece_at : List (Bor (List ℕ)) → ℕ → List ℕ
piece_at pieces i = (get_or pieces i (record { ref_ptr = (0, 0); now = [] })).now

-- one piece was said behind those before it
pub said_more : (start now next : Option (List ℕ)) (pieces : List (Bor (List ℕ))) (i : ℕ) → i < length pieces → now ≡ said start (pieces_text (take i pieces)) → next ≡ said now (piece_at pieces i) → next ≡ said start (pieces_text (take (i + 1) pieces))
said_more start now next pieces i below before more =
    more ∙ ap (λ text. said text (piece_at pieces i)) before ∙ said-said start (pieces_text (take i pieces)) (piece_at pieces i)
    ∙ ap (said start) (sym (pieces_more pieces i (record { ref_ptr = (0, 0); now = [] }) below))

-- a part of a piece was said behind those before it
pub said_part : (start now next : Option (List ℕ)) (pieces : List (Bor (List ℕ))) (i k : ℕ) → i < length pieces → now ≡ said start (pieces_text (take i pieces)) → next ≡ said now (take k (piece_at pieces i)) → (n : ℕ) × (next ≡ said start (take n (pieces_text pieces)))
said_part start now next pieces i k below before more =
    let part = part_of pieces i k (record { ref_ptr = (0, 0); now = [] }) below in
    (part.0, more ∙ ap (λ text. said text (take k (piece_at pieces i))) before ∙ said-said start (pieces_text (take i pieces)) (take k (piece_at pieces i)) ∙ ap (said start) (sym part.1))

-- the same line in other words
pub said_same : {before now : Option (List ℕ)} {failures_before failures_now : ℕ} (a b : List ℕ) → IsSaid before now failures_before failures_now a → a ≡ b → IsSaid before now failures_before failures_now b
said_same {before = before} {now = now} {failures_before = x} {failures_now = y} a b said_a e = let P : List ℕ → Type 0 = λ line. IsSaid before now x y line in subst P e said_a
