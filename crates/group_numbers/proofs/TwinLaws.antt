-- Rows whose keys are those of rows before them, and their numbers.
use Rattle.std.proofs.Common.{◌≡◌, ◌∙◌, ℕ, zero, suc, List, [], ◌∷◌, ◌++◌, Bool, true, false, ◌||◌, cond, Option, Some, None, map, length, get_or, ◌+◌, ◌<◌, ◌≤◌, ◌⊎◌, inl, inr, refl, sym, ap, subst, drop, arith}
use Rattle.std.specs.List.{All, list_any, slice_get, range_with_len}
use Rattle.std.proofs.lemmas.List.{length-map, length-append, get_or_append_left}
use Rattle.std.proofs.lemmas.List.FromFn.{length-map-range_with_len, get_or-map-range_with_len}
use Rattle.std.proofs.Math.Seq.{get_or-append_seam}
use Rattle.batch.specs.declared.batch.Batch.{Batch}
use Rattle.plan_denote.specs.Computed.{Row}
use Rattle.plan_denote.specs.Distinct.{is_same_row}
use Rattle.group_laws.proofs.SameLaws.{same_rows}
use Rattle.row_keys.specs.Keys.{key_of}
use Rattle.group_keys.specs.Keys.{with_item}
use Rattle.group_numbers.specs.Keys.{AreAt}
use Rattle.group_numbers.specs.Twins.{AreTwins}

-- a key that has a number is there
abbrev row_or : Option Row → Row
row_or None = []
row_or (Some row) = row

also : (a b : Bool) → b ≡ true → a || b ≡ true
also true b e = refl
also false b e = e

there : (rows : List Row) (n : ℕ) (key : Row) → slice_get rows n ≡ Some key → list_any (is_same_row key) rows ≡ true
there [] n key e = absurd (cc)
there (row ∷ rows) zero key e =
    let is : row ≡ key = ap row_or e in
    ap (λ r. is_same_row key r || list_any (is_same_row key) rows) is ∙ ap (λ b. b || list_any (is_same_row key) rows) (same_rows.itself key)
there (row ∷ rows) (suc n) key e = also (is_same_row key row) (list_any (is_same_row key) rows) (there rows n key e)

pub known_key : (rows : List Row) (n : ℕ) (key : Row) → slice_get rows n ≡ Some key → rows ≡ with_item is_same_row rows key
known_key rows n key e = sym (ap (λ b. cond b rows (rows ++ key ∷ [])) (there rows n key e))

-- the number of a row among those of the first rows
abbrev first_of : List (Option Row) → Option Row
first_of [] = None
first_of (x ∷ xs) = x

at_place : (rows : List Row) (numbers : List ℕ) (keys : List Row) (n : ℕ) → AreAt rows numbers keys → n < length numbers → slice_get rows (get_or numbers n 0) ≡ Some (get_or keys n [])
at_place rows [] keys n e h = absurd (omega (arith, h))
at_place rows (m ∷ numbers) [] n e h = absurd (cc)
at_place rows (m ∷ numbers) (key ∷ keys) zero e h = ap first_of e
at_place rows (m ∷ numbers) (key ∷ keys) (suc n) e h = at_place rows numbers keys n (ap (drop 1) e) (omega (arith, h))

pub all_at : (f : ℕ → Row) (rows : List Row) (numbers : List ℕ) (row : ℕ) → AreAt rows numbers (map f (range_with_len 0 row)) → length numbers ≡ row
all_at f rows numbers row e =
    sym (length-map numbers (slice_get rows))
    ∙ ap length e
    ∙ length-map (map f (range_with_len 0 row)) (λ key. Some key)
    ∙ length-map-range_with_len f 0 row

pub number_at : (f : ℕ → Row) (rows : List Row) (numbers : List ℕ) (row twin : ℕ) → AreAt rows numbers (map f (range_with_len 0 row)) → twin < row → slice_get rows (get_or numbers twin 0) ≡ Some (f twin)
number_at f rows numbers row twin e h =
    at_place rows numbers (map f (range_with_len 0 row)) twin e (subst (λ n. twin < n) (sym (all_at f rows numbers row e)) h)
    ∙ ap (λ key. Some key) (get_or-map-range_with_len f 0 row twin twin [] h (omega arith))

-- a row and its twin more
here_or_before : (n m : ℕ) → n < m + 1 → (n ≡ m) ⊎ (n < m)
here_or_before n m lt = grind arith

module _ (columns : List ℕ) (batch : Batch) (row : ℕ) (twins : List ℕ) (twin : ℕ) (so_far : AreTwins columns batch row twins) (behind : twin ≤ row) (same : key_of columns batch twin ≡ key_of columns batch row) where
  last_is : get_or (twins ++ twin ∷ []) row 0 ≡ twin
  last_is = ap (λ n. get_or (twins ++ twin ∷ []) n 0) (sym so_far.all) ∙ get_or-append_seam twins twin [] 0

  first_are : (n : ℕ) → n < row → get_or (twins ++ twin ∷ []) n 0 ≡ get_or twins n 0
  first_are n h = get_or_append_left twins (twin ∷ []) 0 n (subst (λ m. n < m) (sym so_far.all) h)

  before_more : (n : ℕ) → n < row + 1 → get_or (twins ++ twin ∷ []) n 0 ≤ n
  before_more n h = elim (here_or_before n row h) [
    | inl is ↦ subst (λ m. get_or (twins ++ twin ∷ []) m 0 ≤ m) (sym is) (subst (λ m. m ≤ row) (sym last_is) behind)
    | inr less ↦ subst (λ m. m ≤ n) (sym (first_are n less)) (so_far.before n less)
  ]

  same_more : (n : ℕ) → n < row + 1 → key_of columns batch (get_or (twins ++ twin ∷ []) n 0) ≡ key_of columns batch n
  same_more n h = elim (here_or_before n row h) [
    | inl is ↦ ap (λ m. key_of columns batch (get_or (twins ++ twin ∷ []) m 0)) is ∙ ap (key_of columns batch) last_is ∙ same ∙ ap (key_of columns batch) (sym is)
    | inr less ↦ ap (key_of columns batch) (first_are n less) ∙ so_far.same n less
  ]

  twin_more : AreTwins columns batch (row + 1) (twins ++ twin ∷ [])
  twin_more = record {
    all = length-append twins (twin ∷ []) ∙ ap (λ n. n + 1) so_far.all;
    before = before_more;
    same = same_more;
  }

pub one_more_twin : (columns : List ℕ) (batch : Batch) (row : ℕ) (twins more : List ℕ) (twin : ℕ) → AreTwins columns batch row twins → more ≡ twins ++ twin ∷ [] → twin ≤ row → key_of columns batch twin ≡ key_of columns batch row → AreTwins columns batch (row + 1) more
one_more_twin columns batch row twins more twin so_far is behind same =
    subst (AreTwins columns batch (row + 1)) (sym is) (twin_more columns batch row twins twin so_far behind same)

pub no_twins : (columns : List ℕ) (batch : Batch) → AreTwins columns batch 0 []
no_twins columns batch = record {
  all = refl;
  before = λ n h. absurd (omega (arith, h));
  same = λ n h. absurd (omega (arith, h));
}

-- rows that are remembered
pub remembered_more : (rows : List ℕ) (row : ℕ) → All (λ r. r ≤ row) rows → All (λ r. r ≤ row + 1) rows
remembered_more rows row all = λ k d h. let e : get_or rows k d ≤ row = all k d h in omega (arith, e)
