-- Lines that are said one after the other.
use Rattle.std.proofs.Common.{◌≡◌, ◌⊎◌, ◌∙◌, sym, ap, ℕ, ◌+◌, ◌<◌, List, [], ◌∷◌, ◌++◌, length, take, drop, get_or, Option, append_assoc, append-nil, arith}
use Rattle.std.specs.List.{flat_map}
use Rattle.std.proofs.Common.{inl, inr}
use Rattle.std.proofs.lemmas.Bool.{cases_lt}
use Rattle.std.proofs.Math.Seq.{take-append-add}
use Rattle.std.proofs.lemmas.List.{take_more, take_all, take-append-le, take-append-drop}
use Rattle.std.proofs.lemmas.List.Concat.{flat_map-append}
use Rattle.world.specs.Notes.{said}
use Rattle.run_words.proofs.SaidLaws.{said-said}
use Rattle.sub_types.specs.declared.value.Value.{Value}
use Rattle.gen_data.specs.Summary.{row_line}

abbrev Row : Type 0
Row = List Value

-- the lines of rows
abbrev pub lines_of : List Row → List ℕ
lines_of rows = flat_map row_line rows

-- one line more
lines_more : (rows : List Row) (i : ℕ) (d : Row) → i < length rows → lines_of (take (i + 1) rows) ≡ lines_of (take i rows) ++ row_line (get_or rows i d)
lines_more rows i d below =
    ap lines_of (take_more rows i d below) ∙ flat_map-append row_line (take i rows) (get_or rows i d ∷ []) ∙ ap (λ last. lines_of (take i rows) ++ last) (append-nil (row_line (get_or rows i d)))

-- the bytes that are kept of a line before others
kept : (line rest : List ℕ) (k : ℕ) → (j : ℕ) × (take j (line ++ rest) ≡ take k line)
kept line rest k = elim (cases_lt k (length line)) [
  | inl within ↦ (k, take-append-le k line rest (omega arith))
  | inr beyond ↦ (length line, take-append-le (length line) line rest (omega arith) ∙ take_all (length line) line (omega arith) ∙ sym (take_all k line (omega arith)))
]

-- the lines from a place on
lines_from : (rows : List Row) (i : ℕ) (d : Row) → i < length rows → lines_of rows ≡ lines_of (take i rows) ++ (row_line (get_or rows i d) ++ lines_of (drop (i + 1) rows))
lines_from rows i d below =
    ap lines_of (sym (take-append-drop (i + 1) rows)) ∙ flat_map-append row_line (take (i + 1) rows) (drop (i + 1) rows)
    ∙ ap (λ front. front ++ lines_of (drop (i + 1) rows)) (lines_more rows i d below) ∙ append_assoc (lines_of (take i rows)) (row_line (get_or rows i d)) (lines_of (drop (i + 1) rows))

-- a line was said behind those before it
pub line_more : (start now next : Option (List ℕ)) (rows : List Row) (i : ℕ) (d : Row) → i < length rows → now ≡ said start (lines_of (take i rows)) → next ≡ said now (row_line (get_or rows i d)) → next ≡ said start (lines_of (take (i + 1) rows))
line_more start now next rows i d below before more =
    more ∙ ap (λ text. said text (row_line (get_or rows i d))) before ∙ said-said start (lines_of (take i rows)) (row_line (get_or rows i d)) ∙ ap (said start) (sym (lines_more rows i d below))

-- a part of a line was said behind those before it
pub line_part : (start now next : Option (List ℕ)) (rows : List Row) (i k : ℕ) (d : Row) → i < length rows → now ≡ said start (lines_of (take i rows)) → next ≡ said now (take k (row_line (get_or rows i d)))
    → (n : ℕ) × (next ≡ said start (take n (lines_of rows)))
line_part start now next rows i k d below before more =
    let front = lines_of (take i rows) in
    let part = kept (row_line (get_or rows i d)) (lines_of (drop (i + 1) rows)) k in
    let whole = ap (take (length front + part.0)) (lines_from rows i d below) ∙ take-append-add front (row_line (get_or rows i d) ++ lines_of (drop (i + 1) rows)) part.0 ∙ ap (λ p. front ++ p) part.1 in
    (length front + part.0, more ∙ ap (λ text. said text (take k (row_line (get_or rows i d)))) before ∙ said-said start front (take k (row_line (get_or rows i d))) ∙ ap (said start) (sym whole))

-- a line that was said whole, as a part of it
pub whole_or_part : (now next : Option (List ℕ)) (line : List ℕ) {failed : Type 0} → (next ≡ said now line) ⊎ ((k : ℕ) × (next ≡ said now (take k line)) × failed) → (k : ℕ) × (next ≡ said now (take k line))
whole_or_part now next line (inl whole) = (length line, whole ∙ ap (said now) (sym (take_all (length line) line (omega arith))))
whole_or_part now next line (inr part) = (part.0, part.1)
