-- What follows of values beside their validity.
use Rattle.std.proofs.Common.{◌≡◌, ℕ, zero, suc, List, [], ◌∷◌, ◌++◌, length, map, get_or, set, Bool, true, false, Some, None, is_some, refl, ap, arith}
use Rattle.sub_types.specs.Optional.{optional}

-- there are as many optional values as values
pub length-optional : {T : Type 0} (xs : List T) (valid : List Bool) → length xs ≡ length valid → length (optional xs valid) ≡ length xs
length-optional [] valid same = refl
length-optional (x ∷ xs) [] same = absurd (omega arith)
length-optional (x ∷ xs) (true ∷ valid) same = let rest = length-optional xs valid (omega arith) in omega arith
length-optional (x ∷ xs) (false ∷ valid) same = let rest = length-optional xs valid (omega arith) in omega arith

-- one behind the other
pub optional-append : {T : Type 0} (xs ys : List T) (valid more : List Bool) → length xs ≡ length valid → optional (xs ++ ys) (valid ++ more) ≡ optional xs valid ++ optional ys more
optional-append [] ys [] more same = refl
optional-append [] ys (b ∷ valid) more same = absurd (omega arith)
optional-append (x ∷ xs) ys [] more same = absurd (omega arith)
optional-append (x ∷ xs) ys (true ∷ valid) more same = ap (λ rest. Some x ∷ rest) (optional-append xs ys valid more (omega arith))
optional-append (x ∷ xs) ys (false ∷ valid) more same = ap (λ rest. None ∷ rest) (optional-append xs ys valid more (omega arith))

-- a valid place has its value
pub get_or-optional_valid : {T : Type 0} (xs : List T) (valid : List Bool) (i : ℕ) (d : T) → length xs ≡ length valid → get_or valid i false ≡ true → get_or (optional xs valid) i None ≡ Some (get_or xs i d)
get_or-optional_valid xs [] i d same is_valid = absurd (cc)
get_or-optional_valid [] (b ∷ valid) i d same is_valid = absurd (omega arith)
get_or-optional_valid (x ∷ xs) (true ∷ valid) zero d same is_valid = refl
get_or-optional_valid (x ∷ xs) (false ∷ valid) zero d same is_valid = absurd (cc)
get_or-optional_valid (x ∷ xs) (true ∷ valid) (suc i) d same is_valid = get_or-optional_valid xs valid i d (omega arith) is_valid
get_or-optional_valid (x ∷ xs) (false ∷ valid) (suc i) d same is_valid = get_or-optional_valid xs valid i d (omega arith) is_valid

-- a place that isn't valid is null
pub get_or-optional_null : {T : Type 0} (xs : List T) (valid : List Bool) (i : ℕ) → get_or valid i false ≡ false → get_or (optional xs valid) i None ≡ None
get_or-optional_null [] valid i is_null = refl
get_or-optional_null (x ∷ xs) [] i is_null = refl
get_or-optional_null (x ∷ xs) (true ∷ valid) zero is_null = absurd (cc)
get_or-optional_null (x ∷ xs) (false ∷ valid) zero is_null = refl
get_or-optional_null (x ∷ xs) (true ∷ valid) (suc i) is_null = get_or-optional_null xs valid i is_null
get_or-optional_null (x ∷ xs) (false ∷ valid) (suc i) is_null = get_or-optional_null xs valid i is_null

-- the validity can be told from the optional values
pub validity-optional : {T : Type 0} (xs : List T) (valid : List Bool) → length xs ≡ length valid → map is_some (optional xs valid) ≡ valid
validity-optional [] [] same = refl
validity-optional [] (b ∷ valid) same = absurd (omega arith)
validity-optional (x ∷ xs) [] same = absurd (omega arith)
validity-optional (x ∷ xs) (true ∷ valid) same = ap (λ rest. true ∷ rest) (validity-optional xs valid (omega arith))
validity-optional (x ∷ xs) (false ∷ valid) same = ap (λ rest. false ∷ rest) (validity-optional xs valid (omega arith))

-- what stands at a place that isn't valid doesn't show
pub optional-set_null : {T : Type 0} (xs : List T) (valid : List Bool) (i : ℕ) (y : T) → get_or valid i false ≡ false → optional (set xs i y) valid ≡ optional xs valid
optional-set_null [] valid i y is_null = refl
optional-set_null (x ∷ xs) [] zero y is_null = refl
optional-set_null (x ∷ xs) [] (suc i) y is_null = refl
optional-set_null (x ∷ xs) (true ∷ valid) zero y is_null = absurd (cc)
optional-set_null (x ∷ xs) (false ∷ valid) zero y is_null = refl
optional-set_null (x ∷ xs) (true ∷ valid) (suc i) y is_null = ap (λ rest. Some x ∷ rest) (optional-set_null xs valid i y is_null)
optional-set_null (x ∷ xs) (false ∷ valid) (suc i) y is_null = ap (λ rest. None ∷ rest) (optional-set_null xs valid i y is_null)
