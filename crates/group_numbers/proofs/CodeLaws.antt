-- Codes tell keys of short texts apart.
use Rattle.std.proofs.Common.{◌≡◌, ◌≢◌, ◌∙◌, ℕ, zero, suc, ◌<◌, ◌≤◌, ◌+◌, ◌*◌, List, [], ◌∷◌, ◌++◌, Option, Some, None, length, take, get_or, set, map, replicate, refl, ap, ap₂, sym, subst, arith, below_more, get_or-set_same, get_or-set_other}
use Rattle.std.proofs.lemmas.List.{map-append, get_or-map, length-replicate, take_all}
use Rattle.std.proofs.lemmas.List.Elements.{All-head, All-rest}
use Rattle.std.proofs.Math.Seq.{take-suc}
use Rattle.sub_types.specs.Nullable.{bytes_value}
use Rattle.sub_types.specs.declared.value.Value.{Value}
use Rattle.sub_types.specs.declared.value.Value.TheVariants.{Null}
use Rattle.batch.specs.declared.batch.Batch.{Batch}
use Rattle.batch.specs.BatchRows.{column_of}
use Rattle.row_keys.specs.Keys.{key_of, value_in}
use Rattle.group_numbers.specs.Codes.{with_bytes, with_text, AreDigits, HasDigits, IsWithText, AreWithTexts, TellValues, AreCodes}

-- the bytes of a slice are digits
get_or_other : (xs : List ℕ) (k d : ℕ) → k < length xs → get_or xs k d ≡ get_or xs k 0
get_or_other [] k d h = absurd (omega (arith, h))
get_or_other (x ∷ xs) zero d h = refl
get_or_other (x ∷ xs) (suc k) d h = get_or_other xs k d (omega (arith, h))

pub digits_from : (bytes : List ℕ) → ((k : ℕ) → get_or bytes k 0 < 256) → AreDigits bytes
digits_from bytes each = λ k d h. subst (λ n. n < 256) (sym (get_or_other bytes k d h)) (each k)

-- a number and its last digit
one_digit : (a b x y : ℕ) → x < 256 → y < 256 → a * 256 + x ≡ b * 256 + y → (a ≡ b) × (x ≡ y)
one_digit a b x y p q e = (omega arith, omega arith)

pub same_bytes : (a b : ℕ) (xs ys : List ℕ) → AreDigits xs → AreDigits ys → length xs ≡ length ys → with_bytes a xs ≡ with_bytes b ys → (a ≡ b) × (xs ≡ ys)
same_bytes a b [] [] p q l e = (e, refl)
same_bytes a b [] (y ∷ ys) p q l e = absurd (omega (arith, l))
same_bytes a b (x ∷ xs) [] p q l e = absurd (omega (arith, l))
same_bytes a b (x ∷ xs) (y ∷ ys) p q l e =
    let rest = same_bytes (a * 256 + x) (b * 256 + y) xs ys (All-rest (λ byte. byte < 256) x xs (x ∷ xs) refl p) (All-rest (λ byte. byte < 256) y ys (y ∷ ys) refl q) (omega (arith, l)) e in
    let here = one_digit a b x y (All-head (λ byte. byte < 256) x xs p) (All-head (λ byte. byte < 256) y ys q) rest.0 in
    (here.0, ap₂ (λ (z : ℕ) (zs : List ℕ). z ∷ zs) here.1 rest.1)

pub same_text : (a b : ℕ) (x y : Option (List ℕ)) → HasDigits x → HasDigits y → with_text a x ≡ with_text b y → (a ≡ b) × (x ≡ y)
same_text a b None None p q e = (omega (arith, e), refl)
same_text a b None (Some ys) p q e = absurd (omega (arith, one_digit a (with_bytes b ys) 0 (length ys + 1) (omega arith) q.1 (omega (arith, e))))
same_text a b (Some xs) None p q e = absurd (omega (arith, one_digit (with_bytes a xs) b (length xs + 1) 0 p.1 (omega arith) (omega (arith, e))))
same_text a b (Some xs) (Some ys) p q e =
    let last = one_digit (with_bytes a xs) (with_bytes b ys) (length xs + 1) (length ys + 1) p.1 q.1 e in
    let both = same_bytes a b xs ys p.0 q.0 (omega (arith, last.1)) last.0 in
    (both.0, ap (λ bytes. Some bytes) both.1)

-- below a row the texts are behind the codes, and from there on nothing is
pub record AreWithTextsBelow (old new : List ℕ) (column : List (Option (List ℕ))) (row : ℕ) : Type 0 where
  pub done : (k : ℕ) → k < row → IsWithText (get_or old k 0) (get_or column k None) (get_or new k 0)
  pub kept : (k : ℕ) → row ≤ k → get_or new k 0 ≡ get_or old k 0

pub one_row : (old new : List ℕ) (column : List (Option (List ℕ))) (row code : ℕ) → row < length new → IsWithText (get_or new row 0) (get_or column row None) code → AreWithTextsBelow old new column row → AreWithTextsBelow old (set new row code) column (row + 1)
one_row old new column row code within step so_far =
    record {
      done = below_more (λ k. IsWithText (get_or old k 0) (get_or column k None) (get_or (set new row code) k 0)) row
          (λ k lt. let ne : k ≢ row = omega arith in rw get_or-set_other (so_far.done k lt))
          (rw get_or-set_same (subst (λ c. IsWithText c (get_or column row None) code) (so_far.kept row (omega arith)) step));
      kept = λ k le. let ne : k ≢ row = omega arith in rw get_or-set_other (so_far.kept k (omega arith));
    }

-- codes with texts behind them tell the texts
pub tell_texts : (old new : List ℕ) (column : List (Option (List ℕ))) → length old ≡ length column → AreWithTexts old new column → TellValues old new (map bytes_value column)
tell_texts old new column long with i j p q e =
    let first = with i p in
    let second = with j q in
    let both = same_text (get_or old i 0) (get_or old j 0) (get_or column i None) (get_or column j None) first.digits second.digits (sym first.is ∙ e ∙ second.is) in (
      both.0,
      get_or-map bytes_value column i None Null (subst (λ n. i < n) long p)
          ∙ ap bytes_value both.1
          ∙ sym (get_or-map bytes_value column j None Null (subst (λ n. j < n) long q)),
    )

-- the key of one column more
one_more : (columns : List ℕ) (batch : Batch) (row k : ℕ) → k < length columns → key_of (take (k + 1) columns) batch row ≡ key_of (take k columns) batch row ++ (value_in batch row (get_or columns k 0) ∷ [])
one_more columns batch row k within =
    let next_place : suc k ≡ k + 1 = omega arith in
    subst (λ n. key_of (take n columns) batch row ≡ key_of (take k columns) batch row ++ (value_in batch row (get_or columns k 0) ∷ [])) next_place
    (ap (λ cs. key_of cs batch row) (take-suc columns k 0 within) ∙ map-append (value_in batch row) (take k columns) (get_or columns k 0 ∷ []))

-- the codes of no columns, and of one column more
pub no_codes : (columns : List ℕ) (batch : Batch) → AreCodes (take 0 columns) batch (replicate batch.rows 0)
no_codes columns batch = record {
  all = length-replicate batch.rows 0;
  same = λ i j p q e. refl;
}

pub more_codes : (columns : List ℕ) (batch : Batch) (k : ℕ) (old new : List ℕ) → k < length columns → length new ≡ length old → TellValues old new (column_of (get_or columns k 0) batch) → AreCodes (take k columns) batch old → AreCodes (take (k + 1) columns) batch new
more_codes columns batch k old new within long tell so_far = record {
  all = long ∙ so_far.all;
  same = λ i j p q e.
      let both = tell i j (subst (λ n. i < n) (sym so_far.all) p) (subst (λ n. j < n) (sym so_far.all) q) e in
      one_more columns batch i k within
      ∙ ap₂ (λ (key : List Value) (value : Value). key ++ (value ∷ [])) (so_far.same i j p q both.0) both.1
      ∙ sym (one_more columns batch j k within);
}

pub all_codes : (columns : List ℕ) (batch : Batch) (k : ℕ) (codes : List ℕ) → length columns ≤ k → AreCodes (take k columns) batch codes → AreCodes columns batch codes
all_codes columns batch k codes done so_far = subst (λ cs. AreCodes cs batch codes) (take_all k columns done) so_far

-- rows with the same code
pub twin_of_code : (columns : List ℕ) (batch : Batch) (codes : List ℕ) (twin row : ℕ) → AreCodes columns batch codes → twin ≤ row → row < length codes → get_or codes twin 0 ≡ get_or codes row 0 → key_of columns batch twin ≡ key_of columns batch row
twin_of_code columns batch codes twin row told behind within same =
    let row_there : row < batch.rows = subst (λ n. row < n) told.all within in
    told.same twin row (omega arith) row_there same
