-- Steps that may be refused, one after the other.
use Rattle.std.specs.Prelude.{List, [], ◌∷◌, Result, Ok, Err}

-- the first step and then the second, unless the first is refused
infixl 10 ◌>>=◌
abbrev pub ◌>>=◌ : {A B E : Type 0} → Result A E → (A → Result B E) → Result B E
(Ok x) >>= f = f x
(Err e) >>= f = Err e

-- all values in order, or the first refusal
abbrev pub collect : {A E : Type 0} → List (Result A E) → Result (List A) E
collect [] = Ok []
collect (first ∷ rest) = do
  x ← first
  xs ← collect rest
  Ok (x ∷ xs)
