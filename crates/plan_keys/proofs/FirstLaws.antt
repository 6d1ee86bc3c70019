-- The first that passes a test.
use Rattle.std.proofs.Common.{◌≡◌, ◌∙◌, sym, ap, refl, ℕ, ◌+◌, ◌<◌, Bool, true, false, cond, List, [], ◌∷◌, ◌++◌, length, get_or, nat_eq, nat_lt, Option, Some, None, IsSome, is_some, position, arith, eqb-true, lt-ltb}
use Rattle.std.specs.List.{position_from, position_or_len}
use Rattle.std.proofs.lemmas.Iterator.Adapters.{position_from-zero}
use Rattle.std.proofs.lemmas.List.Quantifiers.{position-Some}
use Rattle.std.proofs.lemmas.List.Sums.{position_or_len_is}
use Rattle.plan_keys.specs.Places.{or_else, unless_at}

pub position-same : {X : Type 0} (p q : X → Bool) (xs : List X) → ((x : X) → p x ≡ q x) → position p xs ≡ position q xs
position-same p q xs same = ap (λ test. position test xs) (λ i x. same x i)

position_from-never : {X : Type 0} (p : X → Bool) (n : ℕ) (xs : List X) → ((x : X) → p x ≡ false) → position_from p n xs ≡ None
position_from-never p n [] never = refl
position_from-never p n (x ∷ xs) never = ap (λ b. cond b (Some n) (position_from p (n + 1) xs)) (never x) ∙ position_from-never p (n + 1) xs never

pub position-never : {X : Type 0} (p : X → Bool) (xs : List X) → ((x : X) → p x ≡ false) → position p xs ≡ None
position-never p xs never = position_from-zero p xs ∙ position_from-never p 0 xs never

-- ---- one more at the end
or_else-cond : {X : Type 0} (b : Bool) (x : X) (rest other : Option X) → or_else (cond b (Some x) rest) other ≡ cond b (Some x) (or_else rest other)
or_else-cond true x rest other = refl
or_else-cond false x rest other = refl

position_from-push : {X : Type 0} (p : X → Bool) (n : ℕ) (xs : List X) (x : X) → position_from p n (xs ++ x ∷ []) ≡ or_else (position_from p n xs) (cond (p x) (Some (n + length xs)) None)
position_from-push p n [] x = ap (λ m. cond (p x) (Some m) None) (omega arith)
position_from-push p n (y ∷ xs) x =
    ap (cond (p y) (Some n)) (position_from-push p (n + 1) xs x ∙ ap (λ m. or_else (position_from p (n + 1) xs) (cond (p x) (Some m) None)) (omega arith))
    ∙ sym (or_else-cond (p y) n (position_from p (n + 1) xs) (cond (p x) (Some (n + length (y ∷ xs))) None))

pub position-push : {X : Type 0} (p : X → Bool) (xs : List X) (x : X) → position p (xs ++ x ∷ []) ≡ or_else (position p xs) (cond (p x) (Some (length xs)) None)
position-push p xs x =
    position_from-zero p (xs ++ x ∷ []) ∙ position_from-push p 0 xs x
    ∙ ap (λ m. or_else (position_from p 0 xs) (cond (p x) (Some m) None)) (omega arith)
    ∙ ap (λ first. or_else first (cond (p x) (Some (length xs)) None)) (sym (position_from-zero p xs))

pub or_else-some : {X : Type 0} (first other : Option X) → IsSome first → or_else first other ≡ first
or_else-some (Some x) other some = refl
or_else-some None other some = absurd (cc)

pub or_else-none : {X : Type 0} (first : Option X) → or_else first None ≡ first
or_else-none (Some x) = refl
or_else-none None = refl

-- one that fails the test, or is not the first to pass it, changes nothing
pub position-stays : {X : Type 0} (p : X → Bool) (xs : List X) (x : X) → (p x ≡ true → IsSome (position p xs)) → position p (xs ++ x ∷ []) ≡ position p xs
position-stays p xs x later = position-push p xs x ∙ at (p x) refl
  where
    at : (b : Bool) → p x ≡ b → or_else (position p xs) (cond b (Some (length xs)) None) ≡ position p xs
    at true is = or_else-some (position p xs) (Some (length xs)) (later is)
    at false is = or_else-none (position p xs)

pub position-below : {X : Type 0} (p : X → Bool) (xs : List X) (place : ℕ) (d : X) → position p xs ≡ Some place → place < length xs
position-below p xs place d first = (position-Some p xs place d first).0

-- ---- beside a test that a wider one follows from
module _ {X : Type 0} (wide narrow : X → Bool) (within : (x : X) → narrow x ≡ true → wide x ≡ true) where
  fails : (x : X) → wide x ≡ false → narrow x ≡ false
  fails x not_wide = at (narrow x) refl
    where
      at : (b : Bool) → narrow x ≡ b → b ≡ false
      at false is = refl
      at true is = let both : true ≡ false = sym (within x is) ∙ not_wide in absurd (cc)

  none_from : (n : ℕ) (xs : List X) → position_from wide n xs ≡ None → position_from narrow n xs ≡ None
  none_from n [] none = refl
  none_from n (x ∷ xs) none = at (none_from (n + 1) xs) (wide x) refl
    where
      at : (position_from wide (n + 1) xs ≡ None → position_from narrow (n + 1) xs ≡ None) → (b : Bool) → wide x ≡ b → cond (narrow x) (Some n) (position_from narrow (n + 1) xs) ≡ None
      at rest true is = let some : Some n ≡ None = ap (λ b. cond b (Some n) (position_from wide (n + 1) xs)) (sym is) ∙ none in absurd (cc)
      at rest false is =
          ap (λ b. cond b (Some n) (position_from narrow (n + 1) xs)) (fails x is)
          ∙ rest (ap (λ b. cond b (Some n) (position_from wide (n + 1) xs)) (sym is) ∙ none)

  pub none_within : (xs : List X) → position wide xs ≡ None → position narrow xs ≡ None
  none_within xs none = position_from-zero narrow xs ∙ none_from 0 xs (sym (position_from-zero wide xs) ∙ none)

  pub some_around : (xs : List X) → IsSome (position narrow xs) → IsSome (position wide xs)
  some_around xs some = at (position wide xs) refl
    where
      at : (first : Option ℕ) → position wide xs ≡ first → IsSome (position wide xs)
      at (Some place) is = ap is_some is
      at None is = let both : false ≡ true = ap is_some (sym (none_within xs is)) ∙ some in absurd (cc)

  -- the first that passes the wider test passes the other
  pub first_is : (xs : List X) (place : ℕ) (d : X) → position wide xs ≡ Some place → narrow (get_or xs place d) ≡ true → position narrow xs ≡ Some place
  first_is xs place d first passes =
      let found = position-Some wide xs place d first in
      let same : position_or_len narrow xs ≡ place = position_or_len_is narrow xs place d (omega (arith, found.0)) (λ k below. fails (get_or xs k d) (found.2 k below)) (λ _. passes) in
      ap (λ n. cond (nat_lt n (length xs)) (Some n) None) same ∙ ap (λ b. cond b (Some place) None) (lt-ltb place (length xs) found.0)

  -- it fails the other
  pub first_is_not : (xs : List X) (place : ℕ) (d : X) → position wide xs ≡ Some place → narrow (get_or xs place d) ≡ false → unless_at (position narrow xs) (position wide xs) ≡ position narrow xs
  first_is_not xs place d first lacks = ap (unless_at (position narrow xs)) first ∙ at (position narrow xs) refl
    where
      at : (o : Option ℕ) → position narrow xs ≡ o → unless_at o (Some place) ≡ o
      at None is = refl
      at (Some other) is = apart (nat_eq place other) refl
        where
          apart : (b : Bool) → nat_eq place other ≡ b → cond b None (Some other) ≡ Some other
          apart false differs = refl
          apart true agrees =
              let both : true ≡ false = sym (position-Some narrow xs other d is).1 ∙ ap (λ k. narrow (get_or xs k d)) (sym (eqb-true place other agrees)) ∙ lacks in absurd (cc)

-- what is kept of a place where one more passes the wider test
pub unless-kept : (place first more : Option ℕ) → (first ≡ None → place ≡ None) → unless_at place (or_else first more) ≡ unless_at place first
unless-kept None first more none = refl
unless-kept (Some place) (Some first) more none = refl
unless-kept (Some place) None more none = let nothing : Some place ≡ None = none refl in absurd (cc)
