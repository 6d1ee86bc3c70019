-- Values that fit a type, and what is made of them.
use Rattle.std.proofs.Common.{◌≡◌, ◌∙◌, ℕ, ℤ, ◌≤◌, List, [], ◌∷◌, Bool, true, false, true≢false, Result, Ok, Err, IfOk, IsTrue, IsUtf8, if◌then◌else◌, length, inl, inr, refl, sym, ap, subst}
use Rattle.std.specs.List.{list_any}
use Rattle.std.proofs.lemmas.Bool.{or_cases, or_left, or_right}
use Rattle.sub_types.specs.Value.{MAX_TEXT, InKind, FitsTy, Fits}
use Rattle.sub_types.specs.declared.fault.FaultKind.{FaultKind}
use Rattle.sub_types.specs.declared.kind.Kind.{Kind}
use Rattle.sub_types.specs.declared.kind.Kind.TheVariants as kinds
use Rattle.sub_types.specs.declared.kind.Ty.{Ty}
use Rattle.sub_types.specs.declared.value.Value.{Value}
use Rattle.sub_types.specs.declared.value.Value.TheVariants as values
use Rattle.plan_denote.specs.Computed.{Computed, ◌>>=◌, collect, is_null}

-- a fault, or a value that fits the type
abbrev pub IsOf : Ty → Computed → Type 0
IsOf ty computed = IfOk computed (λ value. FitsTy ty value)

-- one for each type
abbrev pub AreOf : List Ty → List Computed → Type 0
AreOf [] [] = Unit {0}
AreOf (ty ∷ types) (computed ∷ others) = IsOf ty computed × AreOf types others
AreOf _ _ = ⊥

pub null_fits : (ty : Ty) → IsTrue ty.nullable → FitsTy ty values.Null
null_fits ty nullable = record { in_kind = tt; short = tt; allowed = λ _. nullable }

pub truth_fits : (ty : Ty) (test : Bool) → ty.kind ≡ kinds.Bool → FitsTy ty (values.Bool test)
truth_fits ty test is = record { in_kind = subst (λ (kind : Kind). InKind kind (values.Bool test)) (sym is) tt; short = tt; allowed = λ e. cc }

pub number_fits : (ty : Ty) (n : ℤ) → InKind ty.kind (values.Int n) → FitsTy ty (values.Int n)
number_fits ty n in_kind = record { in_kind = in_kind; short = tt; allowed = λ e. cc }

pub decimal_fits : (ty : Ty) (n : ℤ) → InKind ty.kind (values.Dec n) → FitsTy ty (values.Dec n)
decimal_fits ty n in_kind = record { in_kind = in_kind; short = tt; allowed = λ e. cc }

pub text_fits : (ty : Ty) (bytes : List ℕ) → ty.kind ≡ kinds.Text → IsUtf8 bytes → length bytes ≤ MAX_TEXT → FitsTy ty (values.Bytes bytes)
text_fits ty bytes is utf8 short = record { in_kind = subst (λ (kind : Kind). InKind kind (values.Bytes bytes)) (sym is) utf8; short = short; allowed = λ e. cc }

-- what fits a type fits one of its kind that is nullable where it is
pub moved : (from to : Ty) (value : Value) → to.kind ≡ from.kind → (IsTrue from.nullable → IsTrue to.nullable) → FitsTy from value → FitsTy to value
moved from to value is nullable fits =
    record { in_kind = subst (λ (kind : Kind). InKind kind value) (sym is) fits.in_kind; short = fits.short; allowed = λ e. nullable (fits.allowed e) }

-- and one of its kind where it isn't null
pub moved_value : (from to : Ty) (value : Value) → to.kind ≡ from.kind → is_null value ≡ false → FitsTy from value → FitsTy to value
moved_value from to value is some fits =
    record { in_kind = subst (λ (kind : Kind). InKind kind value) (sym is) fits.in_kind; short = fits.short; allowed = λ e. absurd (true≢false (sym (ap is_null e) ∙ some)) }

pub moved_of : (from to : Ty) (computed : Computed) → to.kind ≡ from.kind → (IsTrue from.nullable → IsTrue to.nullable) → IsOf from computed → IsOf to computed
moved_of from to (Ok value) is nullable fits = moved from to value is nullable fits
moved_of from to (Err fault) is nullable fits = tt

-- a null value's type is nullable
pub null_allowed : (ty : Ty) (value : Value) → FitsTy ty value → is_null value ≡ true → IsTrue ty.nullable
null_allowed ty values.Null fits null = fits.allowed refl
null_allowed ty (values.Bool _) fits null = cc
null_allowed ty (values.Int _) fits null = cc
null_allowed ty (values.Dec _) fits null = cc
null_allowed ty (values.Bytes _) fits null = cc

-- some of these may be null
abbrev pub some_null : List Ty → Bool
some_null types = list_any (λ (ty : Ty). ty.nullable) types

pub first_null : (ty : Ty) (types : List Ty) → IsTrue ty.nullable → IsTrue (some_null (ty ∷ types))
first_null ty types nullable = or_left ty.nullable (some_null types) nullable

pub later_null : (ty : Ty) (types : List Ty) → IsTrue (some_null types) → IsTrue (some_null (ty ∷ types))
later_null ty types nullable = or_right ty.nullable (some_null types) nullable

pub row_null : (types : List Ty) (row : List Value) → Fits types row → list_any is_null row ≡ true → IsTrue (some_null types)
row_null [] [] fits null = cc
row_null [] (value ∷ row) fits null = absurd fits
row_null (ty ∷ types) [] fits null = absurd fits
row_null (ty ∷ types) (value ∷ row) fits null =
    elim (or_cases (is_null value) (list_any is_null row) null) [
      | inl here ↦ first_null ty types (null_allowed ty value fits.0 here)
      | inr later ↦ later_null ty types (row_null types row fits.1 later)
    ]

-- one step after another
pub then_of : {A : Type 0} (P : A → Type 0) (first : Result A FaultKind) (next : A → Computed) (ty : Ty) → IfOk first P → ((x : A) → P x → IsOf ty (next x)) → IsOf ty (first >>= next)
then_of P (Ok x) next ty known k = k x known
then_of P (Err fault) next ty known k = tt

-- one of two, by a test
pub either_of : (test : Bool) (a b : Computed) (ty : Ty) → (test ≡ true → IsOf ty a) → (test ≡ false → IsOf ty b) → IsOf ty (if test then a else b)
either_of true a b ty k l = k refl
either_of false a b ty k l = l refl

-- all values fit, or one is a fault
joined : (ty : Ty) (types : List Ty) (first : Computed) (rest : Result (List Value) FaultKind) → IsOf ty first → IfOk rest (λ row. Fits types row)
    → IfOk (first >>= (λ value. rest >>= (λ row. Ok (value ∷ row)))) (λ row. Fits (ty ∷ types) row)
joined ty types (Ok value) (Ok row) fits others = (fits, others)
joined ty types (Ok value) (Err fault) fits others = tt
joined ty types (Err fault) rest fits others = tt

pub collected : (types : List Ty) (all : List Computed) → AreOf types all → IfOk (collect all) (λ row. Fits types row)
collected [] [] are = tt
collected [] (computed ∷ all) are = absurd are
collected (ty ∷ types) [] are = absurd are
collected (ty ∷ types) (computed ∷ all) are = joined ty types computed (collect all) are.0 (collected types all are.1)
