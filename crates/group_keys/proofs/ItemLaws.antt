-- One more key.
use Rattle.std.proofs.Common.{◌≡◌, ◌∙◌, ℕ, zero, suc, ◌<◌, ℤ, List, [], ◌∷◌, ◌++◌, Bool, true, false, not, ◌&&◌, ◌||◌, cond, Option, Some, None, map, length, get_or, refl, sym, ap, arith}
use Rattle.std.specs.Prelude.{position}
use Rattle.std.specs.List.{filter, list_any, slice_get}
use Rattle.std.specs.Option.{option_eq, option_map}
use Rattle.std.specs.declared.cmp.Ordering.{Ordering}
use Rattle.std.specs.declared.cmp.Ordering.TheVariants.{Less, Equal, Greater}
use Rattle.std.specs.Ordering.{is_eq, int_cmp, int_eq, ordering_then}
use Rattle.std.specs.FinMap.{int_cmp-IsAntisymmetric}
use Rattle.std.proofs.lemmas.List.{map-append, get_or-map, length-map}
use Rattle.std.proofs.lemmas.List.Quantifiers.{position-Some}
use Rattle.std.proofs.lemmas.Option.{slice_get-map, slice_get-get_or}
use Rattle.indexmap.specs.IndexSet.{insert_key}
use Rattle.sub_types.specs.Nullable.{int_value}
use Rattle.plan_denote.specs.Computed.{Row}
use Rattle.plan_denote.specs.Order.{is_same}
use Rattle.plan_denote.specs.Distinct.{distinct, is_same_row}
use Rattle.group_laws.proofs.SameLaws.{IsSameness, same_rows}
use Rattle.group_laws.proofs.DistinctLaws.{is_new, any-distinct, sames_respect, distinct-append}
use Rattle.group_keys.specs.Keys.{with_item, key_of_number}

-- each key once, and one key more
one_more : {A : Type 0} (items : List A) (item : A) (b : Bool) → cond b items (items ++ item ∷ []) ≡ items ++ cond (not b) (item ∷ []) []
one_more items item true = stays items
  where
    stays : {A : Type 0} (xs : List A) → xs ≡ xs ++ []
    stays [] = refl
    stays (x ∷ xs) = ap (λ l. x ∷ l) (stays xs)
one_more items item false = refl

pub with_item-distinct : {A : Type 0} {same : A → A → Bool} → IsSameness same → (xs : List A) (x : A) → with_item same (distinct same xs) x ≡ distinct same (xs ++ x ∷ [])
with_item-distinct {same = same} s xs x =
    ap (λ b. cond b (distinct same xs) (distinct same xs ++ x ∷ [])) (any-distinct same (same x) (sames_respect s x) xs)
    ∙ one_more (distinct same xs) x (list_any (same x) xs)
    ∙ sym (distinct-append s xs (x ∷ []))

-- keys that are kept in another form
any_mapped : {K A : Type 0} (code : K → A) (p : K → Bool) (q : A → Bool) → ((k : K) → p k ≡ q (code k)) → (keys : List K) → list_any p keys ≡ list_any q (map code keys)
any_mapped code p q h [] = refl
any_mapped code p q h (k ∷ keys) = ap (λ b. b || list_any p keys) (h k) ∙ ap (λ b. q (code k) || b) (any_mapped code p q h keys)

map_cond : {K A : Type 0} (code : K → A) (b : Bool) (xs ys : List K) → map code (cond b xs ys) ≡ cond b (map code xs) (map code ys)
map_cond code true xs ys = refl
map_cond code false xs ys = refl

pub inserted : {K A : Type 0} (code : K → A) (eq : K → K → Bool) (same : A → A → Bool) → ((x y : K) → eq x y ≡ same (code x) (code y)) → (keys : List K) (key : K) → map code (insert_key eq keys key) ≡ with_item same (map code keys) (code key)
inserted code eq same h keys key =
    map_cond code (list_any (eq key) keys) keys (keys ++ key ∷ [])
    ∙ ap (λ l. cond (list_any (eq key) keys) (map code keys) l) (map-append code keys (key ∷ []))
    ∙ ap (λ b. cond b (map code keys) (map code keys ++ code key ∷ [])) (any_mapped code (eq key) (same (code key)) (h key) keys)

-- the key at a place
pub stored_at : {K A : Type 0} (code : K → A) (keys : List K) (n : ℕ) (k : K) (a : A) → slice_get keys n ≡ Some k → a ≡ code k → slice_get (map code keys) n ≡ Some a
stored_at code keys n k a e is = slice_get-map code keys n ∙ ap (option_map code) e ∙ sym (ap Some is)

-- whole numbers
then_equal : (o : Ordering) → is_eq o ≡ is_eq (ordering_then o Equal)
then_equal Less = refl
then_equal Equal = refl
then_equal Greater = refl

same_number : (x y : Option ℤ) → option_eq int_eq x y ≡ is_same (int_value x) (int_value y)
same_number None None = refl
same_number None (Some y) = refl
same_number (Some x) None = refl
same_number (Some x) (Some y) = then_equal (int_cmp x y)

and_true : (b : Bool) → b ≡ b && true
and_true true = refl
and_true false = refl

pub same_number_key : (x y : Option ℤ) → option_eq int_eq x y ≡ is_same_row (key_of_number x) (key_of_number y)
same_number_key x y = same_number x y ∙ and_true (is_same (int_value x) (int_value y))

is_equal : (o : Ordering) → is_eq o ≡ true → o ≡ Equal
is_equal Less e = absurd (cc)
is_equal Equal e = refl
is_equal Greater e = absurd (cc)

pub equal_numbers : (x y : Option ℤ) → option_eq int_eq x y ≡ true → x ≡ y
equal_numbers None None e = refl
equal_numbers None (Some y) e = absurd (cc)
equal_numbers (Some x) None e = absurd (cc)
equal_numbers (Some x) (Some y) e = ap (λ n. Some n) (int_cmp-IsAntisymmetric x y (is_equal (int_cmp x y) e))

-- a key that is found
any_at : {A : Type 0} (p : A → Bool) (xs : List A) (i : ℕ) (d : A) → i < length xs → p (get_or xs i d) ≡ true → list_any p xs ≡ true
any_at p [] i d h e = absurd (omega (arith, h))
any_at p (x ∷ xs) zero d h e = ap (λ b. b || list_any p xs) e
any_at p (x ∷ xs) (suc i) d h e = also (p x) (list_any p xs) (any_at p xs i d (omega arith) e)
  where
    also : (a b : Bool) → b ≡ true → a || b ≡ true
    also true b e = refl
    also false b e = e

pub found_keys : {K A : Type 0} (code : K → A) (same : A → A → Bool) (key : A) (keys : List K) (n : ℕ) → Some n ≡ position (λ k. same key (code k)) keys → map code keys ≡ with_item same (map code keys) key
found_keys code same key [] n e = absurd (cc)
found_keys code same key (k ∷ keys) n e =
    let at = position-Some (λ k. same key (code k)) (k ∷ keys) n k (sym e) in
    let there : list_any (λ k. same key (code k)) (k ∷ keys) ≡ true = any_at (λ k. same key (code k)) (k ∷ keys) n k at.0 at.1 in
    sym (ap (λ b. cond b (map code (k ∷ keys)) (map code (k ∷ keys) ++ key ∷ [])) (sym (any_mapped code (λ k. same key (code k)) (same key) (λ k. refl) (k ∷ keys)) ∙ there))

pub found_at : {K A : Type 0} (code : K → A) (same : A → A → Bool) → ((a b : A) → true ≡ same a b → a ≡ b) → (key : A) (keys : List K) (n : ℕ) → Some n ≡ position (λ k. same key (code k)) keys → slice_get (map code keys) n ≡ Some key
found_at code same equal key [] n e = absurd (cc)
found_at code same equal key (k ∷ keys) n e =
    let at = position-Some (λ k. same key (code k)) (k ∷ keys) n k (sym e) in
    stored_at code (k ∷ keys) n (get_or (k ∷ keys) n k) key (slice_get-get_or (k ∷ keys) n k at.0) (equal key (code (get_or (k ∷ keys) n k)) (sym at.1))
