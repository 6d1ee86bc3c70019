-- Reading all elements of a vector, one after the other.
use Rattle.std.proofs.Common.{◌≡◌, ◌∙◌, ℕ, zero, suc, ◌+◌, ◌-◌, ◌<◌, ◌≤◌, List, [], ◌∷◌, ◌++◌, Some, None, Result, Ok, Err, IsOk, length, get_or, map, refl, sym, ap, subst, arith, add-zero, add-one}
use Rattle.std.specs.List.{range_with_len}
use Rattle.std.proofs.lemmas.List.{append_assoc}
use Rattle.arrow_meta.specs.declared.error.MetaError.{MetaError}
use Rattle.arrow_meta.specs.declared.error.MetaError.TheVariants.{Unsupported}
use Rattle.arrow_meta.specs.declared.field.FieldMeta.{FieldMeta}
use Rattle.arrow_meta.specs.declared.field.Shape.{Shape}
use Rattle.sub_types.specs.ResultSteps.{◌>>=◌, collect}
use Rattle.arrow_meta.specs.Footer.{Field, columns_from}

-- the first element can be read, and so can the others
collect-cons_ok : {A : Type 0} (r : Result A MetaError) (rs : List (Result A MetaError)) → IsOk r → IsOk (collect rs) → IsOk (collect (r ∷ rs))
collect-cons_ok {A} (Ok x) rs one rest = elim (collect rs) as (λ c. IsOk c → IsOk (c >>= λ xs. Ok (x ∷ xs))) [ Ok xs ↦ λ h. h | Err e ↦ λ h. h ] rest
collect-cons_ok (Err e) rs one rest = absurd (cc)

-- the first element can be read, and another can't
collect-cons_err : {A : Type 0} (r : Result A MetaError) (rs : List (Result A MetaError)) (e : MetaError) → IsOk r → collect rs ≡ Err e → collect (r ∷ rs) ≡ Err e
collect-cons_err (Ok x) rs e one rest = rw rest refl
collect-cons_err (Err d) rs e one rest = absurd (cc)

-- the first element can't be read
collect-head_err : {A : Type 0} (r : Result A MetaError) (rs : List (Result A MetaError)) (e : MetaError) → r ≡ Err e → collect (r ∷ rs) ≡ Err e
collect-head_err r rs e h = rw h refl

-- each of so many elements can be read
pub collect_ok : {A : Type 0} (f : ℕ → Result A MetaError) (start n : ℕ) → ((k : ℕ) → start ≤ k → k < start + n → IsOk (f k)) → IsOk (collect (map f (range_with_len start n)))
collect_ok f start zero each = refl
collect_ok f start (suc n) each =
    collect-cons_ok (f start) (map f (range_with_len (start + 1) n)) (each start (omega arith) (omega arith)) (collect_ok f (start + 1) n (λ k low high. each k (omega arith) (omega arith)))

-- the first that can't be read decides
pub collect_err : {A : Type 0} (f : ℕ → Result A MetaError) (start n i : ℕ) (e : MetaError) → i < n → ((k : ℕ) → start ≤ k → k < start + i → IsOk (f k)) → f (start + i) ≡ Err e → collect (map f (range_with_len start n)) ≡ Err e
collect_err f start zero i e below each err = absurd (omega arith)
collect_err f start (suc n) zero e below each err =
    let here : f start ≡ Err e = ap f (sym (add-zero start)) ∙ err in
    collect-head_err (f start) (map f (range_with_len (start + 1) n)) e here
collect_err f start (suc n) (suc i) e below each err =
    let place : start + 1 + i ≡ start + suc i = omega arith in
    collect-cons_err (f start) (map f (range_with_len (start + 1) n)) e (each start (omega arith) (omega arith))
    (collect_err f (start + 1) n i e (omega arith) (λ k low high. each k (omega arith) (omega arith)) (ap f place ∙ err))

-- the elements from the one at i on
abbrev pub rest_of : {A : Type 0} → (ℕ → Result A MetaError) → ℕ → ℕ → Result (List A) MetaError
rest_of f n i = collect (map f (range_with_len i (n - i)))

-- they are the one at i and the others
pub rest_of-step : {A : Type 0} (f : ℕ → Result A MetaError) (n i : ℕ) → i < n → rest_of f n i ≡ collect (f i ∷ map f (range_with_len (i + 1) (n - (i + 1))))
rest_of-step f n i below =
    let count : n - i ≡ suc (n - (i + 1)) = omega arith in
    ap (λ m. collect (map f (range_with_len i m))) count

-- where all can be read, the one at i can, and the others
collect-tail_ok : {A : Type 0} (r : Result A MetaError) (rs : List (Result A MetaError)) → IsOk (collect (r ∷ rs)) → IsOk (collect rs)
collect-tail_ok (Ok x) rs h = elim (collect rs) as (λ c. IsOk (c >>= λ xs. Ok (x ∷ xs)) → IsOk c) [ Ok xs ↦ λ h. h | Err e ↦ λ h. h ] h
collect-tail_ok (Err e) rs h = absurd (cc)

pub rest_of-tail_ok : {A : Type 0} (f : ℕ → Result A MetaError) (n i : ℕ) → i < n → IsOk (rest_of f n i) → IsOk (rest_of f n (i + 1))
rest_of-tail_ok f n i below h =
    collect-tail_ok (f i) (map f (range_with_len (i + 1) (n - (i + 1)))) (subst IsOk (rest_of-step f n i below) h)

pub rest_of-no_err : {A : Type 0} (f : ℕ → Result A MetaError) (n i : ℕ) (e : MetaError) → i < n → IsOk (rest_of f n i) → f i ≡ Err e → ⊥
rest_of-no_err f n i e below h err =
    let bad = collect-head_err (f i) (map f (range_with_len (i + 1) (n - (i + 1)))) e err in
    let wrong = subst IsOk (rest_of-step f n i below ∙ bad) h in cc

-- columns behind others
abbrev pub prefixed : List FieldMeta → Result (List FieldMeta) MetaError → Result (List FieldMeta) MetaError
prefixed front read = read >>= λ columns. Ok (front ++ columns)

abbrev pub column_of : Field → Shape → FieldMeta
column_of field shape = record { name = field.name; nullable = field.nullable; shape = shape }

-- a column of a known shape, and the columns behind it
shaped : (front : List FieldMeta) (field : Field) (shape : Shape) (rest : Result (List FieldMeta) MetaError)
    → prefixed front (rest >>= λ columns. Ok (column_of field shape ∷ columns)) ≡ prefixed (front ++ column_of field shape ∷ []) rest
shaped front field shape (Ok columns) = ap (λ c. Ok c) (sym (append_assoc front (column_of field shape ∷ []) columns))
shaped front field shape (Err e) = refl

columns_step : (front : List FieldMeta) (field : Field) (shape : Shape) (i : ℕ) (rest : Result (List Field) MetaError) → field.shape ≡ Some shape
    → prefixed front ((rest >>= λ fields. Ok (field ∷ fields)) >>= columns_from i) ≡ prefixed (front ++ column_of field shape ∷ []) (rest >>= columns_from (suc i))
columns_step front field shape i (Ok fields) known = rw known (shaped front field shape (columns_from (suc i) fields))
columns_step front field shape i (Err e) known = refl

unsupported_step : (front : List FieldMeta) (field : Field) (i : ℕ) (rest : Result (List Field) MetaError) → field.shape ≡ None → IsOk rest
    → prefixed front ((rest >>= λ fields. Ok (field ∷ fields)) >>= columns_from i) ≡ Err (Unsupported i)
unsupported_step front field i (Ok fields) unknown h = rw unknown refl
unsupported_step front field i (Err e) unknown h = absurd (cc)

-- the columns so far and those of the fields that are left are all columns
pub next_column : (f : ℕ → Result Field MetaError) (n i : ℕ) (front : List FieldMeta) (field : Field) (shape : Shape) → i < n → f i ≡ Ok field → field.shape ≡ Some shape
    → prefixed front (rest_of f n i >>= columns_from i) ≡ prefixed (front ++ column_of field shape ∷ []) (rest_of f n (i + 1) >>= columns_from (i + 1))
next_column f n i front field shape below here known =
    ap (λ fields. prefixed front (fields >>= columns_from i)) (rest_of-step f n i below)
    ∙ ap (λ r. prefixed front (collect (r ∷ map f (range_with_len (i + 1) (n - (i + 1)))) >>= columns_from i)) here
    ∙ columns_step front field shape i (rest_of f n (i + 1)) known
    ∙ ap (λ k. prefixed (front ++ column_of field shape ∷ []) (rest_of f n (i + 1) >>= columns_from k)) (sym (add-one i))

pub unsupported_column : (f : ℕ → Result Field MetaError) (n i : ℕ) (front : List FieldMeta) (field : Field) → i < n → f i ≡ Ok field → field.shape ≡ None → IsOk (rest_of f n i)
    → prefixed front (rest_of f n i >>= columns_from i) ≡ Err (Unsupported i)
unsupported_column f n i front field below here unknown readable =
    ap (λ fields. prefixed front (fields >>= columns_from i)) (rest_of-step f n i below)
    ∙ ap (λ r. prefixed front (collect (r ∷ map f (range_with_len (i + 1) (n - (i + 1)))) >>= columns_from i)) here
    ∙ unsupported_step front field i (rest_of f n (i + 1)) unknown (rest_of-tail_ok f n i below readable)

-- elements that can be read, one by one
pub collect_all : {A : Type 0} (f : ℕ → Result A MetaError) (start : ℕ) (xs : List A) → ((k : ℕ) (d : A) → k < length xs → f (start + k) ≡ Ok (get_or xs k d))
    → collect (map f (range_with_len start (length xs))) ≡ Ok xs
collect_all f start [] each = refl
collect_all f start (x ∷ xs) each =
    let first : f start ≡ Ok x = ap f (sym (add-zero start)) ∙ each 0 x (omega arith) in
    let others = collect_all f (start + 1) xs (λ k d below. let place : start + 1 + k ≡ start + suc k = omega arith in ap f place ∙ each (suc k) d (omega arith)) in
    rw (first, others) refl
