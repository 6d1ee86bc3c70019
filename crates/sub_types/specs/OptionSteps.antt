-- Values that may be missing, one step after the other.
use Rattle.std.specs.Prelude.{List, [], ◌∷◌, Bool, Option, Some, None, if◌then◌else◌}

-- the first step and then the second, unless the first gives nothing
infixl 10 ◌>>=◌
abbrev pub ◌>>=◌ : {A B : Type 0} → Option A → (A → Option B) → Option B
(Some x) >>= f = f x
None >>= f = None

-- what there is only where a test holds
abbrev pub when : {A : Type 0} → Bool → Option A → Option A
when test found = if test then found else None

-- all of them, or nothing where one is missing
abbrev pub all_of : {A : Type 0} → List (Option A) → Option (List A)
all_of [] = Some []
all_of (found ∷ rest) = do
  x ← found
  xs ← all_of rest
  Some (x ∷ xs)
