-- What the functions of truth values, comparisons and choices give fits their result's type.
use Rattle.std.proofs.Common.{◌≡◌, Bool, true, false, not, ◌&&◌, ◌||◌, List, [], ◌∷◌, Ok, Err, IsTrue, inl, inr, if◌then◌else◌, map, refl}
use Rattle.std.specs.List.{AllByRecursion, list_all}
use Rattle.std.specs.declared.cmp.Ordering.{Ordering}
use Rattle.std.specs.Ordering.{is_eq, is_lt, is_gt}
use Rattle.std.proofs.Math.Bool.{beq}
use Rattle.std.proofs.lemmas.Bool.{and_from, or_cases}
use Rattle.sub_types.specs.Value.{FitsTy}
use Rattle.sub_types.specs.declared.kind.Kind.TheVariants as kinds
use Rattle.sub_types.specs.declared.kind.Ty.{Ty}
use Rattle.sub_types.specs.declared.value.Value.{Value}
use Rattle.sub_types.specs.declared.value.Value.TheVariants as values
use Rattle.plan_denote.specs.Computed.{Computed, ◌>>=◌, truth, null, is_null, is_true}
use Rattle.plan_denote.specs.Order.{value_cmp, is_same}
use Rattle.plan_denote.specs.Logic.{is_truth, three_valued, ends_at, not_of, xor_of, compared, between, coalesce, nullif, one_of, first_true, first_equal}
use Rattle.eval_typed.proofs.Fit.{IsOf, AreOf, null_fits, truth_fits, moved, moved_value, null_allowed, then_of, either_of}
use Rattle.eval_typed.proofs.KindLaws.{by_truth}

-- null where the type is nullable, and a truth value
pub null_of : (ty : Ty) → IsTrue ty.nullable → IsOf ty null
null_of ty nullable = null_fits ty nullable

pub truth_of : (ty : Ty) (test : Bool) → ty.kind ≡ kinds.Bool → IsOf ty (truth test)
truth_of ty test is = truth_fits ty test is

-- `and` and `or`: two values by the three-valued table
if_fits : (ty : Ty) (test : Bool) (a b : Value) → FitsTy ty a → FitsTy ty b → FitsTy ty (if test then a else b)
if_fits ty true a b fits others = fits
if_fits ty false a b fits others = others

three_of_nullable : (ty : Ty) (end : Bool) (a b : Value) → ty.kind ≡ kinds.Bool → IsTrue ty.nullable → FitsTy ty (three_valued end a b)
three_of_nullable ty end a b is nullable =
    if_fits ty (is_truth end a || is_truth end b) (values.Bool end) _ (truth_fits ty end is)
    (if_fits ty (is_truth (not end) a && is_truth (not end) b) (values.Bool (not end)) values.Null (truth_fits ty (not end) is) (null_fits ty nullable))

three_of_truths : (ty : Ty) (end a b : Bool) → ty.kind ≡ kinds.Bool → FitsTy ty (three_valued end (values.Bool a) (values.Bool b))
three_of_truths ty true true b is = truth_fits ty true is
three_of_truths ty true false true is = truth_fits ty true is
three_of_truths ty true false false is = truth_fits ty false is
three_of_truths ty false false b is = truth_fits ty false is
three_of_truths ty false true false is = truth_fits ty false is
three_of_truths ty false true true is = truth_fits ty true is

three_fits : (ty : Ty) (end : Bool) (a b : Value) → ty.kind ≡ kinds.Bool → FitsTy ty a → FitsTy ty b → FitsTy ty (three_valued end a b)
three_fits ty end a b is fits others =
    by_truth (λ one. FitsTy ty one → FitsTy ty (three_valued end one b)) ty.kind is
    (λ fit. three_of_nullable ty end values.Null b is (fit.allowed refl))
    (λ test fit. by_truth (λ one. FitsTy ty one → FitsTy ty (three_valued end (values.Bool test) one)) ty.kind is
    (λ more. three_of_nullable ty end (values.Bool test) values.Null is (more.allowed refl))
    (λ next more. three_of_truths ty end test next is) b others.in_kind others)
    a fits.in_kind fits

pub ends_fit : (ty : Ty) (end : Bool) (args : List Computed) → ty.kind ≡ kinds.Bool → AllByRecursion (IsOf ty) args → IsOf ty (ends_at end args)
ends_fit ty end [] is all = truth_of ty (not end) is
ends_fit ty end (arg ∷ args) is all =
    then_of (FitsTy ty) arg (λ value. if is_truth end value then truth end else (ends_at end args >>= (λ rest. Ok (three_valued end value rest)))) ty all.0
    (λ value fits. either_of (is_truth end value) (truth end) (ends_at end args >>= (λ rest. Ok (three_valued end value rest))) ty (λ _. truth_of ty end is)
    (λ _. then_of (FitsTy ty) (ends_at end args) (λ rest. Ok (three_valued end value rest)) ty (ends_fit ty end args is all.1) (λ rest more. three_fits ty end value rest is fits more)))

pub not_fits : (t ty : Ty) (a : Value) → t.kind ≡ kinds.Bool → ty.kind ≡ kinds.Bool → (IsTrue t.nullable → IsTrue ty.nullable) → FitsTy t a → IsOf ty (not_of a)
not_fits t ty a of is nullable fits =
    by_truth (λ one. FitsTy t one → IsOf ty (not_of one)) t.kind of (λ fit. null_of ty (nullable (fit.allowed refl))) (λ test fit. truth_of ty (not test) is) a fits.in_kind fits

pub xor_fits : (t u ty : Ty) (a b : Value) → t.kind ≡ kinds.Bool → u.kind ≡ kinds.Bool → ty.kind ≡ kinds.Bool → (IsTrue t.nullable → IsTrue ty.nullable) → (IsTrue u.nullable → IsTrue ty.nullable)
    → FitsTy t a → FitsTy u b → IsOf ty (xor_of a b)
xor_fits t u ty a b of other is first second fits others =
    by_truth (λ one. FitsTy t one → IsOf ty (xor_of one b)) t.kind of (λ fit. null_of ty (first (fit.allowed refl)))
    (λ test fit. by_truth (λ one. FitsTy u one → IsOf ty (xor_of (values.Bool test) one)) u.kind other (λ more. null_of ty (second (more.allowed refl)))
    (λ next more. truth_of ty (not (beq test next)) is) b others.in_kind others)
    a fits.in_kind fits

-- comparisons
pub compared_fits : (test : Ordering → Bool) (t u ty : Ty) (a b : Value) → ty.kind ≡ kinds.Bool → (IsTrue t.nullable → IsTrue ty.nullable) → (IsTrue u.nullable → IsTrue ty.nullable)
    → FitsTy t a → FitsTy u b → IsOf ty (compared test a b)
compared_fits test t u ty a b is first second fits others =
    either_of (is_null a || is_null b) null (truth (test (value_cmp a b))) ty
    (λ e. null_of ty (elim (or_cases (is_null a) (is_null b) e) [ inl here ↦ first (null_allowed t a fits here) | inr there ↦ second (null_allowed u b others there) ]))
    (λ _. truth_of ty (test (value_cmp a b)) is)

pub between_fits : (t u v ty : Ty) (a b c : Value) → ty.kind ≡ kinds.Bool → (IsTrue t.nullable → IsTrue ty.nullable) → (IsTrue u.nullable → IsTrue ty.nullable) → (IsTrue v.nullable → IsTrue ty.nullable)
    → FitsTy t a → FitsTy u b → FitsTy v c → IsOf ty (between a b c)
between_fits t u v ty a b c is first second third fits others more =
    let test = not (is_lt (value_cmp a b)) && not (is_gt (value_cmp a c)) in
    either_of (is_null a || is_null b || is_null c) null (truth test) ty
    (λ e. null_of ty (elim (or_cases (is_null a || is_null b) (is_null c) e) [
      | inl either ↦ elim (or_cases (is_null a) (is_null b) either) [ inl here ↦ first (null_allowed t a fits here) | inr there ↦ second (null_allowed u b others there) ]
      | inr last ↦ third (null_allowed v c more last)
    ]))
    (λ _. truth_of ty test is)

-- choices
pub coalesce_fits : (types : List Ty) (args : List Computed) (ty : Ty) → AreOf types args → AllByRecursion (λ (one : Ty). ty.kind ≡ one.kind) types
    → (IsTrue (list_all (λ (one : Ty). one.nullable) types) → IsTrue ty.nullable) → IsOf ty (coalesce args)
coalesce_fits [] [] ty fits same nullable = null_of ty (nullable refl)
coalesce_fits [] (arg ∷ args) ty fits same nullable = absurd fits
coalesce_fits (t ∷ types) [] ty fits same nullable = absurd fits
coalesce_fits (t ∷ types) (arg ∷ args) ty fits same nullable =
    then_of (FitsTy t) arg (λ value. if is_null value then coalesce args else Ok value) ty fits.0 (λ value fit.
    either_of (is_null value) (coalesce args) (Ok value) ty
    (λ e. coalesce_fits types args ty fits.1 same.1 (λ all. nullable (and_from t.nullable (list_all (λ (one : Ty). one.nullable) types) (null_allowed t value fit e) all)))
    (λ e. moved_value t ty value same.0 e fit))

pub nullif_fits : (t ty : Ty) (a b : Value) → ty.kind ≡ t.kind → IsTrue ty.nullable → FitsTy t a → IsOf ty (nullif a b)
nullif_fits t ty a b is nullable fits =
    either_of (not (is_null a) && is_same a b) null (Ok a) ty (λ _. null_of ty nullable) (λ _. moved t ty a is (λ _. nullable) fits)

options_fit : (t ty : Ty) (value : Value) (types : List Ty) (options : List Computed) → ty.kind ≡ kinds.Bool → FitsTy t value → (IsTrue t.nullable → IsTrue ty.nullable)
    → AreOf types options → AllByRecursion (λ (one : Ty). IsTrue one.nullable → IsTrue ty.nullable) types
    → AllByRecursion (IsOf ty) (map (λ option. option >>= (λ other. compared is_eq value other)) options)
options_fit t ty value [] [] is fits nullable are others = tt
options_fit t ty value [] (option ∷ options) is fits nullable are others = absurd are
options_fit t ty value (u ∷ types) [] is fits nullable are others = absurd are
options_fit t ty value (u ∷ types) (option ∷ options) is fits nullable are others = (
  then_of (FitsTy u) option (λ other. compared is_eq value other) ty are.0 (λ other fit. compared_fits is_eq t u ty value other is nullable others.0 fits fit),
  options_fit t ty value types options is fits nullable are.1 others.1,
)

pub one_of_fits : (t ty : Ty) (value : Value) (types : List Ty) (options : List Computed) → ty.kind ≡ kinds.Bool → FitsTy t value → (IsTrue t.nullable → IsTrue ty.nullable)
    → AreOf types options → AllByRecursion (λ (one : Ty). IsTrue one.nullable → IsTrue ty.nullable) types → IsOf ty (one_of value options)
one_of_fits t ty value types options is fits nullable are others =
    ends_fit ty true (map (λ option. option >>= (λ other. compared is_eq value other)) options) is (options_fit t ty value types options is fits nullable are others)

chosen : (ty : Ty) (condition value rest : Computed) → IsOf ty value → IsOf ty rest → IsOf ty (condition >>= (λ test. if is_true test then value else rest))
chosen ty (Ok test) value rest fits others = either_of (is_true test) value rest ty (λ _. fits) (λ _. others)
chosen ty (Err fault) value rest fits others = tt

pub first_true_fits : (ty : Ty) (arms : List (Computed × Computed)) (other : Computed) → AllByRecursion (λ (arm : Computed × Computed). IsOf ty arm.1) arms → IsOf ty other → IsOf ty (first_true arms other)
first_true_fits ty [] other all last = last
first_true_fits ty ((condition, value) ∷ arms) other all last = chosen ty condition value (first_true arms other) all.0 (first_true_fits ty arms other all.1 last)

pub first_equal_fits : (ty : Ty) (subject : Value) (arms : List (Value × Computed)) (other : Computed) → AllByRecursion (λ (arm : Value × Computed). IsOf ty arm.1) arms → IsOf ty other → IsOf ty (first_equal subject arms other)
first_equal_fits ty subject [] other all last = last
first_equal_fits ty subject ((literal, value) ∷ arms) other all last =
    either_of (not (is_null subject) && is_same subject literal) value (first_equal subject arms other) ty (λ _. all.0) (λ _. first_equal_fits ty subject arms other all.1 last)
