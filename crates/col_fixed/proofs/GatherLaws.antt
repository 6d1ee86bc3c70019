-- Values and their validity at places, and columns whose values are all there or all missing.
use Rattle.std.proofs.Common.{◌≡◌, ◌∙◌, ℕ, zero, suc, ◌+◌, ◌<◌, ◌≤◌, List, [], ◌∷◌, length, map, get_or, replicate, Bool, true, false, Option, Some, None, unwrap_or, is_some, refl, sym, ap, subst, arith, zero-add}
use Rattle.std.specs.List.{All, slice_range}
use Rattle.std.proofs.Math.ListN.{get_or-map}
use Rattle.std.proofs.lemmas.List.{get_or-replicate}
use Rattle.std.proofs.lemmas.List.Elements.{All-head, All-tail}
use Rattle.sub_types.specs.BitSteps.{both}
use Rattle.sub_types.specs.Optional.{optional}
use Rattle.sub_types.specs.PartLaws.{get_or-part}
use Rattle.sub_types.specs.Rows.{picked}
use Rattle.sub_types.specs.Slots.{slots, optional-slots}
use Rattle.col_fixed.specs.Column.{IsColumn}
use Rattle.col_fixed.proofs.ColumnLaws.{IsColumn-append, IsColumn-value, IsColumn-null, IsColumn-slots}

-- a function of the values at these places
map-at : {X Y : Type 0} (f : X → Y) (d : X) (at : List ℕ) (xs : List X) → map f (picked d at xs) ≡ picked (f d) at (map f xs)
map-at f d [] xs = refl
map-at f d (i ∷ at) xs =
    ap (λ y. y ∷ map f (picked d at xs)) (sym (get_or-map f xs i d)) ∙ ap (λ rest. get_or (map f xs) i (f d) ∷ rest) (map-at f d at xs)

-- the buffers at these places are a column's
pub IsColumn-picked : {T : Type 0} (d : T) (column : List (Option T)) (at : List ℕ) → IsColumn d (picked d at (slots d column)) (picked false at (map is_some column))
IsColumn-picked d column at =
    rw (← map-at (λ value. unwrap_or value d) None at column, ← map-at is_some None at column) (IsColumn-slots d (picked None at column))

-- and show the values there
pub optional-picked : {T : Type 0} (d : T) (column : List (Option T)) (at : List ℕ) → optional (picked d at (slots d column)) (picked false at (map is_some column)) ≡ picked None at column
optional-picked d column at =
    rw (← map-at (λ value. unwrap_or value d) None at column, ← map-at is_some None at column) (optional-slots d (picked None at column))

-- places of a part at the front
pub picked-front : {X : Type 0} (d : X) (xs : List X) (to : ℕ) (at : List ℕ) → All (λ i. 0 + i < to) at → picked d at xs ≡ picked d at (slice_range xs 0 to)
picked-front d xs to [] within = refl
picked-front d xs to (i ∷ at) within =
    let here : get_or xs i d ≡ get_or (slice_range xs 0 to) i d = ap (λ k. get_or xs k d) (sym (zero-add i)) ∙ sym (get_or-part xs 0 to i d (All-head (λ k. 0 + k < to) i at within)) in
    ap (λ x. x ∷ picked d at xs) here ∙ ap (λ rest. get_or (slice_range xs 0 to) i d ∷ rest) (picked-front d xs to at (All-tail (λ k. 0 + k < to) i at within))

-- where all are true, so are those at these places
pub picked-all : (valid : List Bool) (from to : ℕ) (at : List ℕ) → valid ≡ replicate (length valid) true → to ≤ length valid → All (λ i. from + i < to) at → replicate (length at) true ≡ picked false at (slice_range valid from to)
picked-all valid from to [] all within places = refl
picked-all valid from to (i ∷ at) all within places =
    let below : from + i < to = All-head (λ k. from + k < to) i at places in
    let here : get_or (slice_range valid from to) i false ≡ true =
    get_or-part valid from to i false below ∙ ap (λ xs. get_or xs (from + i) false) all ∙ get_or-replicate (length valid) (from + i) true false (omega arith) in
    ap (λ x. x ∷ replicate (length at) true) (sym here)
    ∙ ap (λ rest. get_or (slice_range valid from to) i false ∷ rest) (picked-all valid from to at all within (All-tail (λ k. from + k < to) i at places))

-- values of which none is missing
pub IsColumn-all : {T : Type 0} (d : T) (xs : List T) → IsColumn d xs (replicate (length xs) true)
IsColumn-all d [] = record { same_length = refl; zeroed = refl }
IsColumn-all d (x ∷ xs) = IsColumn-append d (x ∷ []) xs (true ∷ []) (replicate (length xs) true) (IsColumn-value d x) (IsColumn-all d xs)

pub optional-all : {T : Type 0} (xs : List T) → optional xs (replicate (length xs) true) ≡ map (λ x. Some x) xs
optional-all [] = refl
optional-all (x ∷ xs) = ap (λ rest. Some x ∷ rest) (optional-all xs)

-- the same of validity in which all are true
pub IsColumn-all_true : {T : Type 0} (d : T) (xs : List T) (valid : List Bool) → length xs ≡ length valid → valid ≡ replicate (length valid) true → IsColumn d xs valid
IsColumn-all_true d xs valid same all =
    let ones : replicate (length xs) true ≡ valid = ap (λ n. replicate n true) same ∙ sym all in
    let P : List Bool → Type 0 = λ bits. IsColumn d xs bits in
    subst P ones (IsColumn-all d xs)

-- one value over and over
pub IsColumn-constant : {T : Type 0} (d x : T) (n : ℕ) → IsColumn d (replicate n x) (replicate n true)
IsColumn-constant d x zero = record { same_length = refl; zeroed = refl }
IsColumn-constant d x (suc n) = IsColumn-append d (x ∷ []) (replicate n x) (true ∷ []) (replicate n true) (IsColumn-value d x) (IsColumn-constant d x n)

pub optional-constant : {T : Type 0} (x : T) (n : ℕ) → optional (replicate n x) (replicate n true) ≡ replicate n (Some x)
optional-constant x zero = refl
optional-constant x (suc n) = ap (λ rest. Some x ∷ rest) (optional-constant x n)

-- null over and over
pub IsColumn-nulls : {T : Type 0} (d : T) (n : ℕ) → IsColumn d (replicate n d) (replicate n false)
IsColumn-nulls d zero = record { same_length = refl; zeroed = refl }
IsColumn-nulls d (suc n) = IsColumn-append d (d ∷ []) (replicate n d) (false ∷ []) (replicate n false) (IsColumn-null d) (IsColumn-nulls d n)

pub optional-nulls : {T : Type 0} (d : T) (n : ℕ) → optional (replicate n d) (replicate n false) ≡ replicate n None
optional-nulls d zero = refl
optional-nulls d (suc n) = ap (λ rest. None ∷ rest) (optional-nulls d n)

-- truth values masked by their validity
pub IsColumn-both : (xs valid : List Bool) → length xs ≡ length valid → IsColumn false (both xs valid) valid
IsColumn-both [] [] same = record { same_length = refl; zeroed = refl }
IsColumn-both [] (b ∷ valid) same = absurd (omega arith)
IsColumn-both (x ∷ xs) [] same = absurd (omega arith)
IsColumn-both (true ∷ xs) (true ∷ valid) same = IsColumn-append false (true ∷ []) (both xs valid) (true ∷ []) valid (IsColumn-value false true) (IsColumn-both xs valid (omega arith))
IsColumn-both (false ∷ xs) (true ∷ valid) same = IsColumn-append false (false ∷ []) (both xs valid) (true ∷ []) valid (IsColumn-value false false) (IsColumn-both xs valid (omega arith))
IsColumn-both (true ∷ xs) (false ∷ valid) same = IsColumn-append false (false ∷ []) (both xs valid) (false ∷ []) valid (IsColumn-null false) (IsColumn-both xs valid (omega arith))
IsColumn-both (false ∷ xs) (false ∷ valid) same = IsColumn-append false (false ∷ []) (both xs valid) (false ∷ []) valid (IsColumn-null false) (IsColumn-both xs valid (omega arith))

pub optional-both : (xs valid : List Bool) → length xs ≡ length valid → optional (both xs valid) valid ≡ optional xs valid
optional-both [] valid same = refl
optional-both (x ∷ xs) [] same = absurd (omega arith)
optional-both (true ∷ xs) (true ∷ valid) same = ap (λ rest. Some true ∷ rest) (optional-both xs valid (omega arith))
optional-both (false ∷ xs) (true ∷ valid) same = ap (λ rest. Some false ∷ rest) (optional-both xs valid (omega arith))
optional-both (true ∷ xs) (false ∷ valid) same = ap (λ rest. None ∷ rest) (optional-both xs valid (omega arith))
optional-both (false ∷ xs) (false ∷ valid) same = ap (λ rest. None ∷ rest) (optional-both xs valid (omega arith))
