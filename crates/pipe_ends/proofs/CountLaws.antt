-- How many sets hold a group, and lists with the place of each element.
use Rattle.std.proofs.Common.{◌≡◌, ◌∙◌, sym, ap, refl, ℕ, ◌+◌, ◌<◌, ◌≤◌, ◌==◌, Bool, true, false, ◌&&◌, ◌||◌, List, [], ◌∷◌, ◌++◌, length, get_or, take, map, arith}
use Rattle.std.specs.Prelude.{if◌then◌else◌}
use Rattle.std.proofs.Math.ListN.{set}
use Rattle.std.proofs.lemmas.Bool.{eqb-true, eq-eqb}
use Rattle.std.proofs.lemmas.List.{get_or-set_other, take_more, map-append}
use Rattle.std.proofs.lemmas.Grind.{get_or-set_at}
use Rattle.std.proofs.lemmas.List.FromFn.{get_or-enumerate_from, length-enumerate_from}
use Rattle.std.specs.List.{enumerate_from}
use Rattle.pipe_ends.specs.Counts.{counted}

-- a test that fails
not_equal : (a b : ℕ) → (a ≡ b → ⊥) → (a == b) ≡ false
not_equal a b other = by (a == b) refl
  where
    by : (c : Bool) → (a == b) ≡ c → (a == b) ≡ false
    by true same = absurd (other (eqb-true a b same))
    by false same = same

counts : (n count : ℕ) → count ≡ n → counted n count true ≡ n + 1
counts n count same = ap (λ (b : Bool). if b then n + 1 else count) (eq-eqb count n same)

keeps : (n count : ℕ) → (count ≡ n → ⊥) → counted n count true ≡ count
keeps n count other = ap (λ (b : Bool). if b then n + 1 else count) (not_equal count n other)

-- one set more, of a group that all sets so far hold or not
pub counted_more : (n count : ℕ) (all holds : Bool) → count ≤ n → (count == n) ≡ all → (counted n count holds ≤ n + 1) × ((counted n count holds == n + 1) ≡ (all && holds))
counted_more n count true true below same =
    let next : counted n count true ≡ n + 1 = counts n count (eqb-true count n same) in
    (omega arith, eq-eqb (counted n count true) (n + 1) next)
counted_more n count false true below same =
    let kept : counted n count true ≡ count = keeps n count (λ equal. let is : (count == n) ≡ true = eq-eqb count n equal in absurd (cc)) in
    (omega arith, not_equal (counted n count true) (n + 1) (λ equal. omega arith))
counted_more n count true false below same = (omega arith, not_equal count (n + 1) (λ equal. omega arith))
counted_more n count false false below same = (omega arith, not_equal count (n + 1) (λ equal. omega arith))

-- one place more of a set
pub counted_twice : (n count : ℕ) (before here : Bool) → counted n (counted n count before) here ≡ counted n count (before || here)
counted_twice n count false here = refl
counted_twice n count true false = refl
counted_twice n count true true = by (count == n) refl
  where
    by : (b : Bool) → (count == n) ≡ b → counted n (counted n count true) true ≡ counted n count true
    by true same =
        let next : counted n count true ≡ n + 1 = counts n count (eqb-true count n same) in
        keeps n (counted n count true) (λ equal. omega arith)
    by false other =
        let kept : counted n count true ≡ count = ap (λ (b : Bool). if b then n + 1 else count) other in
        keeps n (counted n count true) (λ equal. let is : (count == n) ≡ true = eq-eqb count n (sym kept ∙ equal) in absurd (cc))

-- the counts with one place counted
pub set_counted : (held : List ℕ) (n place k : ℕ) → place < length held → get_or held place 0 ≡ n → get_or (set held place (n + 1)) k 0 ≡ counted n (get_or held k 0) (place == k)
set_counted held n place k below now = by (place == k) refl
  where
    by : (b : Bool) → (place == k) ≡ b → get_or (set held place (n + 1)) k 0 ≡ counted n (get_or held k 0) b
    by true same =
        let is : place ≡ k = eqb-true place k same in
        get_or-set_at held place k (n + 1) 0 (sym is) below ∙ sym (counts n (get_or held k 0) (ap (λ (at : ℕ). get_or held at 0) (sym is) ∙ now))
    by false other = get_or-set_other held place k (n + 1) 0 (λ same. let is : (place == k) ≡ true = eq-eqb place k (sym same) in absurd (cc))

-- and with none counted
pub unset_counted : (held : List ℕ) (n place k : ℕ) → k < length held → (place < length held → get_or held place 0 ≡ n → ⊥) → get_or held k 0 ≡ counted n (get_or held k 0) (place == k)
unset_counted held n place k below other = by (place == k) refl
  where
    by : (b : Bool) → (place == k) ≡ b → get_or held k 0 ≡ counted n (get_or held k 0) b
    by true same =
        let is : place ≡ k = eqb-true place k same in
        sym (keeps n (get_or held k 0) (λ equal. other (omega arith) (ap (λ (at : ℕ). get_or held at 0) is ∙ equal)))
    by false apart = refl

-- one element more, with its place
pub placed_more : {A B : Type 0} (f : ℕ × A → B) (xs : List A) (i : ℕ) (x : A) (ys pushed : List B) (y : B) → i < length xs → x ≡ get_or xs i x → ys ≡ map f (take i (enumerate_from 0 xs)) → y ≡ f (i, x) → pushed ≡ ys ++ y ∷ [] → pushed ≡ map f (take (i + 1) (enumerate_from 0 xs))
placed_more {A} {B} f xs i x ys pushed y below here so_far one push =
    let all = enumerate_from 0 xs in
    let long : length all ≡ length xs = length-enumerate_from 0 xs in
    let zeroth : 0 + i ≡ i = omega arith in
    let at : get_or all i (i, x) ≡ (i, x) = get_or-enumerate_from 0 xs i (i, x) below ∙ ap (λ (place : ℕ). (place, get_or xs i x)) zeroth ∙ ap (λ (e : A). (i, e)) (sym here) in
    push ∙ ap (λ (front : List B). front ++ y ∷ []) so_far ∙ ap (λ (last : B). map f (take i all) ++ last ∷ []) (one ∙ ap f (sym at))
    ∙ sym (map-append f (take i all) (get_or all i (i, x) ∷ []))
    ∙ ap (map f) (sym (take_more all i (i, x) (omega arith)))
