-- The bytes of single objects, as they are appended.
use Rattle.std.proofs.Common.{◌≡◌, ◌≤◌, ◌<◌, ◌+◌, ◌-◌, ◌*◌, ◌/◌, ℕ, Bool, true, false, cond, eqb, List, [], ◌∷◌, ◌++◌, length, take, drop, get_or, replicate, refl, sym, ap, ◌∙◌, append_assoc}
use Rattle.std.specs.List.{flat_map}
use Rattle.std.proofs.lemmas.List.{take_at, drop_at, drop_all, at_drop_more, append-nil}
use Rattle.byteorder.specs.Endian.{little_bytes}
use Rattle.fb_bytes.specs.Layout.{Part, Number, Offset, Cell, Value, Target, cells, of_width, by_widths, by_width, cell_bytes, row_bytes, entries, slot_count, fields_width, filled, vtable, table_place, table_own, structs_laid, text_laid}
use Rattle.fb_bytes.specs.Writing.{blanks}
use Rattle.fb_bytes.proofs.CellLemmas.{entries_same, shapes-cells, shapes-blanks}

-- the entries are those of blank fields too
pub vtable-blanks : (parts : List Part) → vtable parts ≡ little_bytes 2 (4 + 2 * slot_count parts) ++ (little_bytes 2 (4 + fields_width parts) ++ entries (slot_count parts) (by_width (blanks parts)))
unfolding vtable
vtable-blanks parts =
    ap (λ (r : List ℕ). little_bytes 2 (4 + 2 * slot_count parts) ++ (little_bytes 2 (4 + fields_width parts) ++ r)) (entries_same (slot_count parts) (8 ∷ 4 ∷ 2 ∷ 1 ∷ []) (cells 0 parts) (blanks parts) (shapes-cells 0 parts ∙ sym (shapes-blanks parts)))

pub vtable_appended : (n width : ℕ) (parts : List Part) (o out : List ℕ) → n ≡ slot_count parts → width ≡ fields_width parts → out ≡ ((o ++ little_bytes 2 (4 + 2 * n)) ++ little_bytes 2 (4 + width)) ++ entries n (by_width (blanks parts)) → out ≡ o ++ vtable parts
vtable_appended n width parts o out k w e =
    e ∙ ap (λ (m : ℕ). ((o ++ little_bytes 2 (4 + 2 * m)) ++ little_bytes 2 (4 + width)) ++ entries m (by_width (blanks parts))) k
    ∙ ap (λ (m : ℕ). ((o ++ little_bytes 2 (4 + 2 * slot_count parts)) ++ little_bytes 2 (4 + m)) ++ entries (slot_count parts) (by_width (blanks parts))) w
    ∙ append_assoc (o ++ little_bytes 2 (4 + 2 * slot_count parts)) (little_bytes 2 (4 + fields_width parts)) (entries (slot_count parts) (by_width (blanks parts)))
    ∙ append_assoc o (little_bytes 2 (4 + 2 * slot_count parts)) (little_bytes 2 (4 + fields_width parts) ++ entries (slot_count parts) (by_width (blanks parts)))
    ∙ ap (λ (r : List ℕ). o ++ r) (sym (vtable-blanks parts))

-- no field is an offset
abbrev Plain : List Cell → Type 0
Plain [] = Unit {0}
Plain (Value slot width value ∷ cs) = Plain cs
Plain (Target slot place ∷ cs) = ⊥

Plain-append : (xs ys : List Cell) → Plain xs → Plain ys → Plain (xs ++ ys)
Plain-append [] ys a b = b
Plain-append (Value slot width value ∷ xs) ys a b = Plain-append xs ys a b
Plain-append (Target slot place ∷ xs) ys a b = a

Plain_kept : (b : Bool) (slot width value : ℕ) (cs : List Cell) → Plain cs → Plain (cond b (Value slot width value ∷ cs) cs)
Plain_kept true slot width value cs h = h
Plain_kept false slot width value cs h = h

Plain-of_width : (w : ℕ) (cs : List Cell) → Plain cs → Plain (of_width w cs)
Plain-of_width w [] h = tt
Plain-of_width w (Value slot width value ∷ cs) h = Plain_kept (eqb width w) slot width value (of_width w cs) (Plain-of_width w cs h)
Plain-of_width w (Target slot place ∷ cs) h = absurd h

Plain-by_widths : (ws : List ℕ) (cs : List Cell) → Plain cs → Plain (by_widths ws cs)
Plain-by_widths [] cs h = tt
Plain-by_widths (w ∷ ws) cs h = Plain-append (of_width w cs) (by_widths ws cs) (Plain-of_width w cs h) (Plain-by_widths ws cs h)

Plain-blanks : (parts : List Part) → Plain (blanks parts)
Plain-blanks [] = tt
Plain-blanks (Number slot width value ∷ ps) = Plain-blanks ps
Plain-blanks (Offset slot object ∷ ps) = Plain-blanks ps

row_bytes-plain : (place : ℕ) (cs : List Cell) → Plain cs → row_bytes place cs ≡ flat_map (cell_bytes 0) cs
row_bytes-plain place [] h = refl
row_bytes-plain place (Value slot width value ∷ cs) h = ap (λ (r : List ℕ). little_bytes width value ++ r) (row_bytes-plain (place + width) cs h)
row_bytes-plain place (Target slot target ∷ cs) h = absurd h

-- blank fields have the same bytes wherever they stand
pub row_bytes-blanks : (place : ℕ) (parts : List Part) → row_bytes place (by_width (blanks parts)) ≡ flat_map (cell_bytes 0) (by_width (blanks parts))
row_bytes-blanks place parts = row_bytes-plain place (by_width (blanks parts)) (Plain-by_widths (8 ∷ 4 ∷ 2 ∷ 1 ∷ []) (blanks parts) (Plain-blanks parts))

-- what was appended from the end on is filled up
pub filled_behind : (n : ℕ) (o own out : List ℕ) → n ≡ length o → out ≡ o ++ own → take n out ++ filled (drop n out) ≡ o ++ filled own
filled_behind n o own out h e = rw e (rw (take_at o own n (sym h), drop_at o own n (sym h)) refl)

pub text_appended : (n count : ℕ) (o text out : List ℕ) → n ≡ length o → count ≡ length text → out ≡ ((o ++ little_bytes 4 count) ++ text) ++ 0 ∷ [] → take n out ++ filled (drop n out) ≡ o ++ (text_laid text).bytes
unfolding text_laid
text_appended n count o text out h k e =
    filled_behind n o (little_bytes 4 count ++ (text ++ 0 ∷ [])) out h (e ∙ simp append_assoc) ∙ ap (λ (c : ℕ). o ++ filled (little_bytes 4 c ++ (text ++ 0 ∷ []))) k

pub structs_appended : (n width count : ℕ) (o structs out : List ℕ) → n ≡ length o → count ≡ length structs / width → out ≡ ((o ++ replicate 4 0) ++ little_bytes 4 count) ++ structs → take n out ++ filled (drop n out) ≡ o ++ (structs_laid width structs).bytes
unfolding structs_laid
structs_appended n width count o structs out h k e =
    filled_behind n o (replicate 4 0 ++ (little_bytes 4 count ++ structs)) out h (e ∙ simp append_assoc) ∙ ap (λ (c : ℕ). o ++ filled (replicate 4 0 ++ (little_bytes 4 c ++ structs))) k

pub table_appended : (n slots place : ℕ) (parts : List Part) (o out : List ℕ) → n ≡ length o → slots ≡ slot_count parts → place ≡ table_place slots → out ≡ (((o ++ vtable parts) ++ replicate (place - (4 + 2 * slots)) 0) ++ little_bytes 4 place) ++ flat_map (cell_bytes 0) (by_width (blanks parts)) → take n out ++ filled (drop n out) ≡ o ++ filled (table_own parts (blanks parts))
unfolding table_own
table_appended n slots place parts o out h k p e =
    let row = row_bytes-blanks (place + 4) parts in
    filled_behind n o (vtable parts ++ (replicate (place - (4 + 2 * slots)) 0 ++ (little_bytes 4 place ++ row_bytes (place + 4) (by_width (blanks parts))))) out h (e ∙ (rw row (simp append_assoc)))
    ∙ ap (λ (q : ℕ). o ++ filled (vtable parts ++ (replicate (q - (4 + 2 * slots)) 0 ++ (little_bytes 4 q ++ row_bytes (q + 4) (by_width (blanks parts)))))) p
    ∙ ap (λ (m : ℕ). o ++ filled (vtable parts ++ (replicate (table_place m - (4 + 2 * m)) 0 ++ (little_bytes 4 (table_place m) ++ row_bytes (table_place m + 4) (by_width (blanks parts)))))) k

flat_map-append : (f : Cell → List ℕ) (xs ys : List Cell) → flat_map f (xs ++ ys) ≡ flat_map f xs ++ flat_map f ys
flat_map-append f [] ys = refl
flat_map-append f (x ∷ xs) ys = ap (λ (r : List ℕ). f x ++ r) (flat_map-append f xs ys) ∙ sym (append_assoc (f x) (flat_map f xs) (flat_map f ys))

abbrev widths : List ℕ
widths = 8 ∷ 4 ∷ 2 ∷ 1 ∷ []

-- the fields of one more width are appended
pub widths_more : (i : ℕ) (cs : List Cell) (out new all : List ℕ) → i < 4 → new ≡ out ++ flat_map (cell_bytes 0) (of_width (get_or widths i 0) cs) → out ++ flat_map (cell_bytes 0) (by_widths (drop i widths) cs) ≡ all → new ++ flat_map (cell_bytes 0) (by_widths (drop (i + 1) widths) cs) ≡ all
widths_more i cs out new all h e k =
    let step = at_drop_more (λ (ws : List ℕ). by_widths ws cs) widths i 0 h in
    let front = of_width (get_or widths i 0) cs in
    let rest = by_widths (drop (i + 1) widths) cs in
    ap (λ (r : List ℕ). r ++ flat_map (cell_bytes 0) rest) e
    ∙ append_assoc out (flat_map (cell_bytes 0) front) (flat_map (cell_bytes 0) rest)
    ∙ ap (λ (r : List ℕ). out ++ r) (sym (flat_map-append (cell_bytes 0) front rest))
    ∙ ap (λ (r : List Cell). out ++ flat_map (cell_bytes 0) r) (sym step) ∙ k

pub widths_all : (i : ℕ) (cs : List Cell) (out all : List ℕ) → 4 ≤ i → out ++ flat_map (cell_bytes 0) (by_widths (drop i widths) cs) ≡ all → out ≡ all
widths_all i cs out all h k =
    let none : drop i widths ≡ [] = drop_all i widths h in
    sym (append-nil out) ∙ ap (λ (ws : List ℕ). out ++ flat_map (cell_bytes 0) (by_widths ws cs)) (sym none) ∙ k
