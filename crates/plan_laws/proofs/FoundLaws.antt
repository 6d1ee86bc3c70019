-- Where the first item with a number is found, and no number stands twice, each item is found by its own number.
use Rattle.std.proofs.Common.{◌≡◌, ◌∙◌, ℕ, ◌+◌, ◌≤◌, List, [], ◌∷◌, Bool, true, false, cond, if◌then◌else◌, ◌==◌, eq-eqb, map, count_by, refl, sym, ap, arith}
use Rattle.std.specs.List.{AllByRecursion}
use Rattle.func_table.proofs.ListLaws.{count_by-cons}
use Rattle.well_typed.proofs.ValidKinds.{all_both}
use Rattle.denote_typed.proofs.RowsLaws.{weakened}

same_number : (number : ℕ) → (number == number) ≡ true
same_number number = eq-eqb number number refl

-- how many pass a test, after a map
pub count_by-map : {A B : Type 0} (test : B → Bool) (f : A → B) (xs : List A) → count_by test (map f xs) ≡ count_by (λ x. test (f x)) xs
count_by-map test f [] = refl
count_by-map test f (x ∷ xs) = count_by-cons test (f x) (map f xs) ∙ ap (λ (count : ℕ). cond (test (f x)) 1 0 + count) (count_by-map test f xs) ∙ sym (count_by-cons (λ y. test (f y)) x xs)

module _ {A : Type 0} (number : A → ℕ) where
  -- how many have the number
  abbrev pub with_number : ℕ → List A → ℕ
  with_number n items = count_by (λ (item : A). number item == n) items

  abbrev pub IsThere : List A → A → Type 0
  IsThere items item = 1 ≤ with_number (number item) items

  first_there : (test : Bool) (count later : ℕ) → test ≡ true → count ≡ cond test 1 0 + later → 1 ≤ count
  first_there true count later is split = omega (arith, split)
  first_there false count later is split = absurd (cc)

  still_there : (test : Bool) (count later : ℕ) → count ≡ cond test 1 0 + later → 1 ≤ later → 1 ≤ count
  still_there test count later split more = omega (arith, split, more)

  pub all_there : (items : List A) → AllByRecursion (IsThere items) items
  all_there [] = tt
  all_there (first ∷ rest) = (
    first_there (number first == number first) (with_number (number first) (first ∷ rest)) (with_number (number first) rest) (same_number (number first)) (count_by-cons (λ (item : A). number item == number first) first rest),
    weakened (IsThere rest) (IsThere (first ∷ rest)) rest (all_there rest) (λ item there.
        still_there (number first == number item) (with_number (number item) (first ∷ rest)) (with_number (number item) rest) (count_by-cons (λ (one : A). number one == number item) first rest) there),
  )

  -- no number stands twice
  abbrev pub Differ : List A → Type 0
  Differ items = (n : ℕ) → with_number n items ≤ 1

  later_few : (test : Bool) (count later : ℕ) → count ≡ cond test 1 0 + later → count ≤ 1 → later ≤ 1
  later_few test count later split few = omega (arith, split, few)

  later_differ : (first : A) (rest : List A) → Differ (first ∷ rest) → Differ rest
  later_differ first rest differ n =
      later_few (number first == n) (with_number n (first ∷ rest)) (with_number n rest) (count_by-cons (λ (item : A). number item == n) first rest) (differ n)

  module _ {B : Type 0} (value : A → B) (found : List A → ℕ → B) (finds : (first : A) (rest : List A) (n : ℕ) → found (first ∷ rest) n ≡ (if number first == n then value first else found rest n)) where
    abbrev pub IsFound : List A → A → Type 0
    IsFound items item = found items (number item) ≡ value item

    here : (first : A) (rest : List A) → IsFound (first ∷ rest) first
    here first rest = finds first rest (number first) ∙ ap (λ (test : Bool). if test then value first else found rest (number first)) (same_number (number first))

    past : (test : Bool) (first : A) (rest : List A) (item : A) (count : ℕ) → count ≡ cond test 1 0 + with_number (number item) rest → count ≤ 1 → IsThere rest item → IsFound rest item
        → (if test then value first else found rest (number item)) ≡ value item
    past true first rest item count split few there is = absurd (omega (arith, split, few, there))
    past false first rest item count split few there is = is

    later : (first : A) (rest : List A) → Differ (first ∷ rest) → (item : A) → IsThere rest item → IsFound rest item → IsFound (first ∷ rest) item
    later first rest differ item there is =
        finds first rest (number item)
        ∙ past (number first == number item) first rest item (with_number (number item) (first ∷ rest)) (count_by-cons (λ (one : A). number one == number item) first rest) (differ (number item)) there is

    -- each is found by its number
    pub all_found : (items : List A) → Differ items → AllByRecursion (IsFound items) items
    all_found [] differ = tt
    all_found (first ∷ rest) differ = (
      here first rest,
      all_both (IsThere rest) (IsFound rest) (IsFound (first ∷ rest)) rest (later first rest differ) (all_there rest) (all_found rest (later_differ first rest differ)),
    )
