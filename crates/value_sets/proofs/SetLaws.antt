-- Values in a set, and one value more.
use Rattle.std.proofs.Common.{◌≡◌, ◌∙◌, ℕ, ◌+◌, ◌<◌, ◌≤◌, ℤ, List, [], ◌∷◌, ◌++◌, Bool, true, false, ◌||◌, cond, length, take, get_or, refl, sym, ap, subst}
use Rattle.std.specs.List.{list_any, AllZip}
use Rattle.std.proofs.lemmas.List.{take_all, take_more}
use Rattle.std.specs.Ordering.{is_eq, int_eq, int_cmp, ordering_then}
use Rattle.std.specs.FinMap.{int_cmp-IsAntisymmetric}
use Rattle.std.specs.Str.{bytes_eq}
use Rattle.std.specs.declared.cmp.Ordering.{Ordering}
use Rattle.std.specs.declared.cmp.Ordering.TheVariants.{Less, Equal, Greater}
use Rattle.std.proofs.lemmas.Map.Text.{is_eq-slice_cmp}
use Rattle.indexmap.specs.IndexSet.{insert_key}
use Rattle.sub_types.specs.declared.value.Value.{Value}
use Rattle.sub_types.specs.declared.value.Value.TheVariants as values
use Rattle.sub_types.specs.declared.kind.Ty.{Ty}
use Rattle.plan_typed.specs.declared.expr.Expr.{Expr}
use Rattle.plan_typed.specs.declared.expr.Expr.TheVariants as exprs
use Rattle.plan_denote.specs.Order.{is_same}
use Rattle.value_sets.specs.declared.set.ValueSet.{ValueSet}
use Rattle.value_sets.specs.Sets.{has, has_text, IsConstant, IsSetOf}

any_append : {K : Type 0} (p : K → Bool) (keys : List K) (key : K) → list_any p (keys ++ key ∷ []) ≡ (p key || list_any p keys)
any_append p [] key = refl
any_append p (k ∷ keys) key = ap (λ b. p k || b) (any_append p keys key) ∙ swap (p k) (p key) (list_any p keys)
  where
    swap : (a b c : Bool) → (a || (b || c)) ≡ (b || (a || c))
    swap true true c = refl
    swap true false c = refl
    swap false true c = refl
    swap false false c = refl

or_true : (a b : Bool) → b ≡ true → b ≡ (a || b)
or_true true b e = e
or_true false b e = refl

-- a key that is asked for, in keys to which one was added: `same` keys answer alike
pub any_inserted : {K : Type 0} (eq : K → K → Bool) (p : K → Bool) (keys : List K) (key : K) → (p key ≡ true → list_any (eq key) keys ≡ list_any p keys) → list_any p (insert_key eq keys key) ≡ (p key || list_any p keys)
any_inserted eq p keys key alike = go (list_any (eq key) keys) refl
  where
    met : (b : Bool) → p key ≡ b → list_any (eq key) keys ≡ true → list_any p keys ≡ (p key || list_any p keys)
    met true asked there = or_true (p key) (list_any p keys) (sym (alike asked) ∙ there)
    met false asked there = ap (λ b. b || list_any p keys) (sym asked)

    go : (there : Bool) → list_any (eq key) keys ≡ there → list_any p (cond there keys (keys ++ key ∷ [])) ≡ (p key || list_any p keys)
    go true there = met (p key) refl there
    go false there = any_append p keys key

-- whole numbers
equal_of : (o : Ordering) → is_eq o ≡ true → o ≡ Equal
equal_of Less e = absurd (cc)
equal_of Equal e = refl
equal_of Greater e = absurd (cc)

pub equal_ints : (m n : ℤ) → int_eq m n ≡ true → m ≡ n
equal_ints m n e = int_cmp-IsAntisymmetric m n (equal_of (int_cmp m n) e)

then_equal : (o : Ordering) → is_eq o ≡ is_eq (ordering_then o Equal)
then_equal Less = refl
then_equal Equal = refl
then_equal Greater = refl

pub same_ints : (m n : ℤ) → int_eq m n ≡ is_same (values.Int m) (values.Int n)
same_ints m n = then_equal (int_cmp m n)

pub same_decimals : (m n : ℤ) → int_eq m n ≡ is_same (values.Dec m) (values.Dec n)
same_decimals m n = then_equal (int_cmp m n)

pub same_texts : (a b : List ℕ) → bytes_eq a b ≡ is_same (values.Bytes a) (values.Bytes b)
same_texts a b = sym (is_eq-slice_cmp a b)

pub int_inserted : (keys : List ℤ) (m n : ℤ) → list_any (int_eq m) (insert_key int_eq keys n) ≡ (int_eq m n || list_any (int_eq m) keys)
int_inserted keys m n = any_inserted int_eq (int_eq m) keys n (λ e. ap (λ k. list_any (int_eq k) keys) (sym (equal_ints m n e)))

-- texts were added and nothing else
pub text_added : (set now : ValueSet) (bytes : List ℕ) → set.has_null ≡ now.has_null → set.has_false ≡ now.has_false → set.has_true ≡ now.has_true → set.ints.keys ≡ now.ints.keys → set.decimals.keys ≡ now.decimals.keys
    → ((other : List ℕ) → has_text now.texts.keys other ≡ (bytes_eq other bytes || has_text set.texts.keys other))
    → (other : Value) → has now other ≡ (is_same other (values.Bytes bytes) || has set other)
text_added set now bytes null lies holds ints decimals added values.Null = sym null
text_added set now bytes null lies holds ints decimals added (values.Bool true) = sym holds
text_added set now bytes null lies holds ints decimals added (values.Bool false) = sym lies
text_added set now bytes null lies holds ints decimals added (values.Int n) = ap (list_any (int_eq n)) (sym ints)
text_added set now bytes null lies holds ints decimals added (values.Dec n) = ap (list_any (int_eq n)) (sym decimals)
text_added set now bytes null lies holds ints decimals added (values.Bytes other) = added other ∙ ap (λ b. b || has_text set.texts.keys other) (same_texts other bytes)

-- a constant more
zip_more : {A B : Type 0} (R : A → B → Type 0) (xs : List A) (ys : List B) (x : A) (y : B) → AllZip R xs ys → R x y → AllZip R (xs ++ x ∷ []) (ys ++ y ∷ [])
zip_more R [] [] x y all one = (one, tt)
zip_more R [] (y' ∷ ys) x y all one = absurd all
zip_more R (x' ∷ xs) [] x y all one = absurd all
zip_more R (x' ∷ xs) (y' ∷ ys) x y all one = (all.0, zip_more R xs ys x y all.1 one)

pub constant_more : (set now : ValueSet) (options : List Expr) (n : ℕ) (option : Expr) (value : Value) (ty : Ty) → IsSetOf set (take n options) → n < length options → option ≡ get_or options n option → option ≡ exprs.Const value ty
    → ((other : Value) → has now other ≡ (is_same other value || has set other)) → IsSetOf now (take (n + 1) options)
constant_more set now options n option value ty of there at is added = record {
  values = of.values ++ value ∷ [];
  constants = subst (λ (done : List Expr). AllZip IsConstant done (of.values ++ value ∷ [])) (sym (take_more options n option there ∙ ap (λ one. take n options ++ one ∷ []) (sym at)))
      (zip_more IsConstant (take n options) of.values option value of.constants (ty, is));
  has = λ other. added other ∙ ap (λ b. is_same other value || b) (of.has other) ∙ sym (any_append (is_same other) of.values value);
}

pub constants_none : (set : ValueSet) → ((value : Value) → has set value ≡ false) → IsSetOf set []
constants_none set none = record { values = []; constants = tt; has = none }

pub constants_all : (set : ValueSet) (options : List Expr) (n : ℕ) → IsSetOf set (take n options) → length options ≤ n → IsSetOf set options
constants_all set options n of end = subst (IsSetOf set) (take_all n options end) of
