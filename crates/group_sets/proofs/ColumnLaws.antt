-- The types of the columns, one after the other.
use Rattle.std.proofs.Common.{◌≡◌, ◌∙◌, ℕ, ◌+◌, ◌<◌, ◌≤◌, List, [], ◌∷◌, ◌++◌, ◌&&◌, true, false, map, length, take, get_or, sym, ap, ap₂, arith, Vec, Global, if◌then◌else◌}
use Rattle.std.specs.Prelude.{nat_le}
use Rattle.std.specs.List.{list_all, enumerate_from}
use Rattle.std.proofs.lemmas.Bool.Decides.{nat_tests}
use Rattle.std.proofs.lemmas.List.{length-map, map-append, take_more, take_all}
use Rattle.std.proofs.lemmas.List.Folds.{list_all_more, list_all_at}
use Rattle.std.proofs.lemmas.List.FromFn.{length-enumerate_from, get_or-enumerate_from}
use Rattle.sub_types.specs.declared.kind.Kind.TheVariants as kinds
use Rattle.sub_types.specs.declared.kind.Ty.{Ty}
use Rattle.well_typed.specs.Columns.{has_place, number_column}
use Rattle.set_states.proofs.SetLaws.{set_at}

-- one element more, with its place
pub placed_more : {A B : Type 0} (f : ℕ × A → B) (xs : List A) (i : ℕ) (x : A) (ys pushed : List B) (y : B) → i < length xs → x ≡ get_or xs i x → ys ≡ map f (take i (enumerate_from 0 xs)) → y ≡ f (i, x) → pushed ≡ ys ++ y ∷ [] → pushed ≡ map f (take (i + 1) (enumerate_from 0 xs))
placed_more {A} {B} f xs i x ys pushed y below here so_far one push =
    let all = enumerate_from 0 xs in
    let long : length all ≡ length xs = length-enumerate_from 0 xs in
    let zeroth : 0 + i ≡ i = omega arith in
    let at : get_or all i (i, x) ≡ (i, x) = get_or-enumerate_from 0 xs i (i, x) below ∙ ap (λ (place : ℕ). (place, get_or xs i x)) zeroth ∙ ap (λ (e : A). (i, e)) (sym here) in
    push ∙ ap (λ (front : List B). front ++ y ∷ []) so_far ∙ ap (λ (last : B). map f (take i all) ++ last ∷ []) (one ∙ ap f (sym at))
    ∙ sym (map-append f (take i all) (get_or all i (i, x) ∷ []))
    ∙ ap (map f) (sym (take_more all i (i, x) (omega arith)))

-- ---- whether all sets have a group

abbrev sets_in : List (Vec ℕ Global) → List (List ℕ)
sets_in sets = map (λ (set : Vec ℕ Global). set.items) sets

pub all_more : (place : ℕ) (sets : List (Vec ℕ Global)) (i : ℕ) (set : Vec ℕ Global) → i < length sets → set ≡ get_or sets i set → list_all (has_place place) (take i (map (λ (set : Vec ℕ Global). set.items) sets)) ≡ true → has_place place set.items ≡ true
    → list_all (has_place place) (take (i + 1) (map (λ (set : Vec ℕ Global). set.items) sets)) ≡ true
all_more place sets i set lt is so_far has =
    let there : i < length (sets_in sets) = omega (arith, lt, length-map sets (λ (set : Vec ℕ Global). set.items)) in
    list_all_more (has_place place) (sets_in sets) i [] there ∙ ap₂ (λ a b. a && b) so_far (ap (has_place place) (set_at sets i set lt is) ∙ has)

pub not_all : (place : ℕ) (sets : List (Vec ℕ Global)) (i : ℕ) (set : Vec ℕ Global) → i < length sets → set ≡ get_or sets i set → has_place place set.items ≡ false → false ≡ list_all (has_place place) (map (λ (set : Vec ℕ Global). set.items) sets)
not_all place sets i set lt is lacks =
    let there : i < length (sets_in sets) = omega (arith, lt, length-map sets (λ (set : Vec ℕ Global). set.items)) in
    sym (list_all_at (has_place place) (sets_in sets) i [] there (ap (has_place place) (set_at sets i set lt is) ∙ lacks))

pub all_done : (place : ℕ) (sets : List (Vec ℕ Global)) (i : ℕ) → length sets ≤ i → list_all (has_place place) (take i (map (λ (set : Vec ℕ Global). set.items) sets)) ≡ true → true ≡ list_all (has_place place) (map (λ (set : Vec ℕ Global). set.items) sets)
all_done place sets i all so_far =
    let done : length (sets_in sets) ≤ i = omega (arith, all, length-map sets (λ (set : Vec ℕ Global). set.items)) in
    sym (ap (list_all (has_place place)) (sym (take_all i (sets_in sets) done)) ∙ so_far)

-- ---- the number of the set

few_sets : (n : ℕ) → n ≤ 1 → nat_le n 1 ≡ true
few_sets n h = grind (arith, nat_tests)

many_sets : (n : ℕ) → 1 < n → nat_le n 1 ≡ false
many_sets n h = grind (arith, nat_tests)

-- the column with the number
abbrev pub number_if : List Ty
number_if = record { kind = kinds.I32; nullable = false } ∷ []

pub number_none : (sets : List (Vec ℕ Global)) → length sets ≤ 1 → [] ≡ number_column (map (λ (set : Vec ℕ Global). set.items) sets)
number_none sets h =
    let few : length (sets_in sets) ≤ 1 = omega (arith, h, length-map sets (λ (set : Vec ℕ Global). set.items)) in
    sym (ap (λ b. if b then [] else number_if) (few_sets (length (sets_in sets)) few))

pub number_some : (sets : List (Vec ℕ Global)) → 1 < length sets → number_if ≡ number_column (map (λ (set : Vec ℕ Global). set.items) sets)
number_some sets h =
    let many : 1 < length (sets_in sets) = omega (arith, h, length-map sets (λ (set : Vec ℕ Global). set.items)) in
    sym (ap (λ b. if b then [] else number_if) (many_sets (length (sets_in sets)) many))
