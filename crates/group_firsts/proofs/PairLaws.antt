-- Pairs more, and the numbers of their groups.
use Rattle.std.proofs.Common.{◌≡◌, ◌∙◌, ℕ, zero, suc, ◌+◌, ◌<◌, List, [], ◌∷◌, ◌++◌, Bool, true, false, not, ◌||◌, ◌==◌, cond, Option, Some, None, map, length, get_or, drop, drop-cons, refl, sym, ap, subst, arith, eq-eqb}
use Rattle.std.specs.List.{list_any, slice_get}
use Rattle.std.proofs.lemmas.Bool.{eqb-true}
use Rattle.std.proofs.lemmas.List.{map-append, length-map}
use Rattle.plan_denote.specs.Computed.{Row}
use Rattle.plan_denote.specs.Distinct.{is_same_row, distinct}
use Rattle.plan_denote.specs.Aggregate.{Entry}
use Rattle.group_laws.proofs.SameLaws.{same_rows}
use Rattle.group_keys.specs.Keys.{with_item}
use Rattle.group_numbers.specs.Keys.{AreAt, IsOnce, with_keys}
use Rattle.group_numbers.proofs.DistinctLaws.{with_keys-distinct, distinct_keys}
use Rattle.group_firsts.specs.Firsts.{pair_at, key_in, with_new, numbers_at}

abbrev option_or : Option Row → List (Option Row) → Option Row
option_or other [] = other
option_or other (x ∷ xs) = x

abbrev row_or : Row → Option Row → Row
row_or other None = other
row_or other (Some row) = row

none_head : (a b : Bool) → a || b ≡ false → (a ≡ false) × (b ≡ false)
none_head true b e = absurd (cc)
none_head false b e = (refl, e)

-- ---- keys stay in their places

stays_end : (rows more : List Row) (n : ℕ) (k : Row) → slice_get rows n ≡ Some k → slice_get (rows ++ more) n ≡ Some k
stays_end [] more n k e = absurd (cc)
stays_end (row ∷ rows) more zero k e = e
stays_end (row ∷ rows) more (suc n) k e = stays_end rows more n k e

stays_by : (rows : List Row) (key : Row) (b : Bool) (n : ℕ) (k : Row) → slice_get rows n ≡ Some k → slice_get (cond b rows (rows ++ key ∷ [])) n ≡ Some k
stays_by rows key true n k e = e
stays_by rows key false n k e = stays_end rows (key ∷ []) n k e

stays : (rows more : List Row) (n : ℕ) (k : Row) → slice_get rows n ≡ Some k → slice_get (with_keys rows more) n ≡ Some k
stays rows [] n k e = e
stays rows (key ∷ more) n k e = stays (with_item is_same_row rows key) more n k (stays_by rows key (list_any (is_same_row key) rows) n k e)

pub at_still : (rows more : List Row) (numbers : List ℕ) (keys : List Row) → AreAt rows numbers keys → AreAt (with_keys rows more) numbers keys
at_still rows more [] keys e = e
at_still rows more (n ∷ numbers) [] e = absurd (cc)
at_still rows more (n ∷ numbers) (k ∷ keys) e =
    ap (λ o. o ∷ map (slice_get (with_keys rows more)) numbers) (stays rows more n k (ap (option_or None) e))
    ∙ ap (λ l. Some k ∷ l) (at_still rows more numbers keys (ap (drop 1) e))

-- ---- each key has one place

unlike : (keys : List Row) (n : ℕ) (key k : Row) → list_any (is_same_row k) keys ≡ false → slice_get keys n ≡ Some key → is_same_row k key ≡ false
unlike [] n key k e f = absurd (cc)
unlike (x ∷ keys) zero key k e f =
    let both = none_head (is_same_row k x) (list_any (is_same_row k) keys) e in
    ap (is_same_row k) (sym (ap (row_or []) f)) ∙ both.0
unlike (x ∷ keys) (suc n) key k e f =
    let both = none_head (is_same_row k x) (list_any (is_same_row k) keys) e in
    unlike keys n key k both.1 f

never : (b : Bool) → b ≡ true → b ≡ false → ⊥
never true e f = absurd (cc)
never false e f = absurd (cc)

one_place : (keys : List Row) (i j : ℕ) (a b : Row) → IsOnce keys → slice_get keys i ≡ Some a → slice_get keys j ≡ Some b → is_same_row a b ≡ true → i ≡ j
one_place [] i j a b o e f s = absurd (cc)
one_place (x ∷ keys) zero zero a b o e f s = refl
one_place (x ∷ keys) zero (suc j) a b o e f s =
    absurd (never (is_same_row a b) s (ap (λ r. is_same_row r b) (sym (ap (row_or []) e)) ∙ unlike keys j b x o.0 f))
one_place (x ∷ keys) (suc i) zero a b o e f s =
    absurd (never (is_same_row a b) s (same_rows.symm a b ∙ ap (λ r. is_same_row r a) (sym (ap (row_or []) f)) ∙ unlike keys i a x o.0 e))
one_place (x ∷ keys) (suc i) (suc j) a b o e f s = ap suc (one_place keys i j a b o.1 e f s)

-- a key that is there
pub record IsThere (keys : List Row) (key : Row) : Type 0 where
  pub place : ℕ
  pub found : Row
  pub at : slice_get keys place ≡ Some found
  pub same : is_same_row key found ≡ true
  pub within : place < length keys

there_by : (x : Row) (keys : List Row) (key : Row) (b : Bool) → is_same_row key x ≡ b → b || list_any (is_same_row key) keys ≡ true → (list_any (is_same_row key) keys ≡ true → IsThere keys key) → IsThere (x ∷ keys) key
there_by x keys key true e h rest = record { place = 0; found = x; at = refl; same = e; within = omega arith }
there_by x keys key false e h rest =
    let one = rest h in
    record { place = suc one.place; found = one.found; at = one.at; same = one.same; within = omega (arith, one.within) }

there : (keys : List Row) (key : Row) → list_any (is_same_row key) keys ≡ true → IsThere keys key
there [] key e = absurd (cc)
there (x ∷ keys) key e = there_by x keys key (is_same_row key x) refl e (there keys key)

last_at : (keys : List Row) (key : Row) → slice_get (keys ++ key ∷ []) (length keys) ≡ Some key
last_at [] key = refl
last_at (x ∷ keys) key = last_at keys key

differs : (n m : ℕ) (b : Bool) → (n == m) ≡ b → (n ≡ m → ⊥) → b ≡ false
differs n m true e h = absurd (h (eqb-true n m e))
differs n m false e h = refl

-- ---- the groups of pairs

-- a pair is new where its place is behind all others
is_new : (rows more : List Row) (pair : Row) (n : ℕ) (b : Bool) → list_any (is_same_row pair) rows ≡ b → IsOnce (with_keys (cond b rows (rows ++ pair ∷ [])) more) → slice_get (with_keys (cond b rows (rows ++ pair ∷ [])) more) n ≡ Some pair
    → (n == length rows) ≡ not b
is_new rows more pair n true e o at =
    let one = there rows pair e in
    let same : n ≡ one.place = one_place (with_keys rows more) n one.place pair one.found o at (stays rows more one.place one.found one.at) one.same in
    differs n (length rows) (n == length rows) refl (λ h. absurd (omega (arith, one.within, same, h)))
is_new rows more pair n false e o at =
    let same : n ≡ length rows = one_place (with_keys (rows ++ pair ∷ []) more) n (length rows) pair pair o at (stays (rows ++ pair ∷ []) more (length rows) pair (last_at rows pair)) (same_rows.itself pair) in
    ap (λ m. m == length rows) same ∙ eq-eqb (length rows) (length rows) refl

owned_by : (keys rows : List Row) (pair : Row) (groups : List ℕ) (n : ℕ) (b : Bool) → AreAt keys groups (map key_in rows) → slice_get keys n ≡ Some (key_in pair)
    → AreAt keys (cond (not b) (groups ++ n ∷ []) groups) (map key_in (cond b rows (rows ++ pair ∷ [])))
owned_by keys rows pair groups n true at one = at
owned_by keys rows pair groups n false at one =
    map-append (slice_get keys) groups (n ∷ [])
    ∙ ap (λ l. l ++ slice_get keys n ∷ []) at
    ∙ ap (λ o. map (λ row. Some row) (map key_in rows) ++ o ∷ []) one
    ∙ sym (map-append (λ row. Some row) (map key_in rows) (key_in pair ∷ []))
    ∙ ap (map (λ row. Some row)) (sym (map-append key_in rows (pair ∷ [])))

pub as_many : (keys : List Row) (numbers : List ℕ) (rows : List Row) → AreAt keys numbers rows → length numbers ≡ length rows
as_many keys numbers rows e = sym (length-map numbers (slice_get keys)) ∙ ap length e ∙ length-map rows (λ row. Some row)

pub owned : (keys rows more : List Row) (groups places numbers : List ℕ) → IsOnce (with_keys rows more) → AreAt (with_keys rows more) places more → AreAt keys groups (map key_in rows) → AreAt keys numbers (map key_in more)
    → AreAt keys (with_new groups places numbers) (map key_in (with_keys rows more))
owned keys rows [] groups [] numbers o at h g = h
owned keys rows [] groups (p ∷ places) numbers o at h g = absurd (cc)
owned keys rows (pair ∷ more) groups [] numbers o at h g = absurd (cc)
owned keys rows (pair ∷ more) groups (p ∷ places) [] o at h g = absurd (cc)
owned keys rows (pair ∷ more) groups (p ∷ places) (n ∷ numbers) o at h g =
    let b = list_any (is_same_row pair) rows in
    let many : length groups ≡ length rows = as_many keys groups (map key_in rows) h ∙ length-map rows key_in in
    let new : (p == length groups) ≡ not b = ap (λ m. p == m) many ∙ is_new rows more pair p b refl o (ap (option_or None) at) in
    let grown = cond (p == length groups) (groups ++ n ∷ []) groups in
    owned keys (cond b rows (rows ++ pair ∷ [])) more grown places numbers o (ap (drop 1) at)
    (subst (λ t. AreAt keys (cond t (groups ++ n ∷ []) groups) (map key_in (cond b rows (rows ++ pair ∷ [])))) (sym new) (owned_by keys rows pair groups n b h (ap (option_or None) g)))
    (ap (drop 1) g)

-- the groups of later pairs, by their numbers there
at_through : (keys : List Row) (numbers : List ℕ) (others : List Row) (g : ℕ) (k : Row) → AreAt keys numbers others → slice_get others g ≡ Some k → slice_get keys (get_or numbers g 0) ≡ Some k
at_through keys [] [] g k e f = absurd (cc)
at_through keys [] (other ∷ others) g k e f = absurd (cc)
at_through keys (n ∷ numbers) [] g k e f = absurd (cc)
at_through keys (n ∷ numbers) (other ∷ others) zero k e f = ap (option_or None) e ∙ f
at_through keys (n ∷ numbers) (other ∷ others) (suc g) k e f = at_through keys numbers others g k (ap (drop 1) e) f

pub numbers_there : (keys others : List Row) (numbers groups : List ℕ) (pairs : List Row) → AreAt keys numbers others → AreAt others groups pairs → AreAt keys (numbers_at numbers groups) pairs
numbers_there keys others numbers [] pairs e f = f
numbers_there keys others numbers (g ∷ groups) [] e f = absurd (cc)
numbers_there keys others numbers (g ∷ groups) (pair ∷ pairs) e f =
    ap (λ o. o ∷ map (slice_get keys) (numbers_at numbers groups)) (at_through keys numbers others g pair e (ap (option_or None) f))
    ∙ ap (λ l. Some pair ∷ l) (numbers_there keys others numbers groups pairs e (ap (drop 1) f))

-- ---- all pairs

pub pair_keys : (place : ℕ) (entries : List Entry) → map key_in (map (pair_at place) entries) ≡ map (λ entry. entry.0) entries
pair_keys place [] = refl
pair_keys place (entry ∷ entries) = ap (λ l. entry.0 ∷ l) (pair_keys place entries)

pub pairs_more : (place : ℕ) (entries later : List Entry) (rows grown more : List Row) → rows ≡ distinct is_same_row (map (pair_at place) entries) → map (pair_at place) later ≡ more → grown ≡ with_keys rows more
    → grown ≡ distinct is_same_row (map (pair_at place) (entries ++ later))
pairs_more place entries later rows grown more is are g =
    g ∙ ap (λ l. with_keys l more) is
    ∙ ap (with_keys (distinct is_same_row (map (pair_at place) entries))) (sym are)
    ∙ with_keys-distinct (map (pair_at place) entries) (map (pair_at place) later)
    ∙ ap (distinct is_same_row) (sym (map-append (pair_at place) entries later))

pub pairs_both : (place : ℕ) (entries later : List Entry) (rows grown more : List Row) → rows ≡ distinct is_same_row (map (pair_at place) entries) → more ≡ distinct is_same_row (map (pair_at place) later) → grown ≡ with_keys rows more
    → grown ≡ distinct is_same_row (map (pair_at place) (entries ++ later))
pairs_both place entries later rows grown more is are g =
    g ∙ ap (λ l. with_keys l more) is
    ∙ ap (with_keys (distinct is_same_row (map (pair_at place) entries))) are
    ∙ distinct_keys (map (pair_at place) entries) (map (pair_at place) later)
    ∙ ap (distinct is_same_row) (sym (map-append (pair_at place) entries later))

-- ---- a pair more

drop_more : (xs : List ℕ) (i : ℕ) → i < length xs → drop i xs ≡ get_or xs i 0 ∷ drop (i + 1) xs
drop_more xs i h =
    let next : suc i ≡ i + 1 = omega arith in
    drop-cons xs i 0 h ∙ ap (λ n. get_or xs i 0 ∷ drop n xs) next

pub added : (groups more places numbers : List ℕ) (row : ℕ) → row < length places → row < length numbers → more ≡ cond (get_or places row 0 == length groups) (groups ++ get_or numbers row 0 ∷ []) groups
    → with_new more (drop (row + 1) places) (drop (row + 1) numbers) ≡ with_new groups (drop row places) (drop row numbers)
added groups more places numbers row h g m =
    ap (λ l. with_new l (drop (row + 1) places) (drop (row + 1) numbers)) m
    ∙ sym (ap (λ l. with_new groups l (drop row numbers)) (drop_more places row h) ∙ ap (with_new groups (get_or places row 0 ∷ drop (row + 1) places)) (drop_more numbers row g))
