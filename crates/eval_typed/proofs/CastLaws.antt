-- What casts give fits the type that is cast to.
use Rattle.std.proofs.Common.{◌≡◌, ℕ, ◌+◌, ◌^◌, ◌<◌, ◌≤◌, ℤ, ◌*ℤ◌, Bool, true, false, ◌||◌, Option, Some, None, Ok, Err, IsTrue, if◌then◌else◌, length, refl, sym, subst, arith}
use Rattle.std.specs.Prelude.{FitsSigned}
use lib.Signed.{mag}
use Rattle.std.specs.Fmt.{signed_decimal}
use Rattle.std.specs.Int.{w8, w16, w32, w64}
use Rattle.std.proofs.lemmas.Fmt.{IsAscii-signed, length_signed_le}
use Rattle.std.proofs.lemmas.Str.{IsUtf8-from_ascii}
use Rattle.sub_types.specs.Value.{MAX_TEXT, InKind, FitsTy}
use Rattle.sub_types.specs.declared.fault.FaultKind.TheVariants as faults
use Rattle.sub_types.specs.declared.kind.Kind.{Kind}
use Rattle.sub_types.specs.declared.kind.Kind.TheVariants as kinds
use Rattle.sub_types.specs.declared.kind.Ty.{Ty}
use Rattle.sub_types.specs.declared.value.Value.{Value}
use Rattle.sub_types.specs.declared.value.Value.TheVariants as values
use Rattle.func_table.proofs.KindLaws.{equal_kinds}
use Rattle.func_table.specs.Kinds.{is_equal}
use Rattle.well_typed.specs.Casts.{is_whole, is_cast_of_whole, is_cast_of, can_cast}
use Rattle.well_typed.specs.Types.{type_with}
use Rattle.plan_denote.specs.Computed.{Computed}
use Rattle.plan_denote.specs.Whole.{bits_of, is_within}
use Rattle.plan_denote.specs.Decimals.{decimal_or, rescaled}
use Rattle.plan_denote.specs.Casts.{DAY, number_of, fitting, converted, cast, or_null}
use Rattle.eval_typed.proofs.Fit.{IsOf, text_fits, number_fits, moved, either_of}
use Rattle.eval_typed.proofs.KindLaws.{is_integer, whole_integer, by_whole, by_integer, by_text, by_decimal}
use Rattle.eval_typed.proofs.LogicLaws.{null_of}
use Rattle.eval_typed.proofs.NumberLaws.{within_kind, decimal_or_fits}

-- a number that fits
fitting_fits : (ty : Ty) (n : ℤ) → is_integer ty.kind ≡ true → IsOf ty (fitting ty.kind n)
fitting_fits ty n is =
    either_of (is_within (bits_of ty.kind) n) (Ok (values.Int n)) (Err faults.BadCast) ty (λ within. number_fits ty n (within_kind ty.kind n is within)) (λ _. tt)

-- a number of any kind of whole numbers has 64 bits
wide8 : (n : ℤ) → FitsSigned w8 n → FitsSigned w64 n
wide8 n fits = record { sfits = omega (arith, fits.sfits) }

wide16 : (n : ℤ) → FitsSigned w16 n → FitsSigned w64 n
wide16 n fits = record { sfits = omega (arith, fits.sfits) }

wide32 : (n : ℤ) → FitsSigned w32 n → FitsSigned w64 n
wide32 n fits = record { sfits = omega (arith, fits.sfits) }

wide : (kind : Kind) (n : ℤ) → is_whole kind ≡ true → InKind kind (values.Int n) → FitsSigned w64 n
wide kinds.I8 n is fits = wide8 n fits
wide kinds.I16 n is fits = wide16 n fits
wide kinds.I32 n is fits = wide32 n fits
wide kinds.I64 n is fits = fits
wide kinds.Date n is fits = absurd (cc)
wide kinds.Timestamp n is fits = absurd (cc)
wide kinds.Bool n is fits = absurd (cc)
wide kinds.Text n is fits = absurd (cc)
wide kinds.Binary n is fits = absurd (cc)
wide (kinds.Decimal precision scale) n is fits = absurd (cc)

-- a number as a text
short : (n : ℤ) → FitsSigned w64 n → length (signed_decimal n) ≤ MAX_TEXT
short n fits =
    let few : mag n + 1 < 10 ^ 19 = omega (arith, fits.sfits) in
    let digits : length (signed_decimal n) ≤ 19 + 1 = length_signed_le 19 n few fits.sfits in
    omega (arith, digits)

written_fits : (ty : Ty) (n : ℤ) → ty.kind ≡ kinds.Text → FitsSigned w64 n → IsOf ty (Ok (values.Bytes (signed_decimal n)))
written_fits ty n is fits = text_fits ty (signed_decimal n) is (IsUtf8-from_ascii (signed_decimal n) (IsAscii-signed n fits.sfits)) (short n fits)

-- a whole number as a decimal, a text or another whole number
abbrev number_to : Kind → ℤ → Computed
number_to (kinds.Decimal precision scale) n = decimal_or faults.BadCast (kinds.Decimal precision scale) (rescaled 0 scale n)
number_to kinds.Text n = Ok (values.Bytes (signed_decimal n))
number_to to n = fitting to n

whole_converted : (from to : Kind) (n : ℤ) → is_whole from ≡ true → converted from to (values.Int n) ≡ number_to to n
whole_converted kinds.I8 (kinds.Decimal precision scale) n is = refl
whole_converted kinds.I8 kinds.Text n is = refl
whole_converted kinds.I8 _ n is = refl
whole_converted kinds.I16 (kinds.Decimal precision scale) n is = refl
whole_converted kinds.I16 kinds.Text n is = refl
whole_converted kinds.I16 _ n is = refl
whole_converted kinds.I32 (kinds.Decimal precision scale) n is = refl
whole_converted kinds.I32 kinds.Text n is = refl
whole_converted kinds.I32 _ n is = refl
whole_converted kinds.I64 (kinds.Decimal precision scale) n is = refl
whole_converted kinds.I64 kinds.Text n is = refl
whole_converted kinds.I64 _ n is = refl
whole_converted _ _ n is = cc

number_kind : (to : Kind) (nullable : Bool) (n : ℤ) → is_cast_of_whole to ≡ true → FitsSigned w64 n → IsOf (type_with to nullable) (number_to to n)
number_kind (kinds.Decimal precision scale) nullable n is fits = decimal_or_fits (type_with (kinds.Decimal precision scale) nullable) faults.BadCast (rescaled 0 scale n) refl
number_kind kinds.Text nullable n is fits = written_fits (type_with kinds.Text nullable) n refl fits
number_kind kinds.I8 nullable n is fits = fitting_fits (type_with kinds.I8 nullable) n refl
number_kind kinds.I16 nullable n is fits = fitting_fits (type_with kinds.I16 nullable) n refl
number_kind kinds.I32 nullable n is fits = fitting_fits (type_with kinds.I32 nullable) n refl
number_kind kinds.I64 nullable n is fits = fitting_fits (type_with kinds.I64 nullable) n refl
number_kind _ nullable n is fits = absurd (cc)

from_whole : (from : Kind) (ty : Ty) (n : ℤ) → is_whole from ≡ true → is_cast_of_whole ty.kind ≡ true → InKind from (values.Int n) → IsOf ty (converted from ty.kind (values.Int n))
from_whole from ty n is to fits = subst (IsOf ty) (sym (whole_converted from ty.kind n is)) (number_kind ty.kind ty.nullable n to (wide from n is fits))

-- a text as a whole number
from_text : (ty : Ty) (written : Option ℤ) → is_whole ty.kind ≡ true → IsOf ty (elim written [ Some n ↦ fitting ty.kind n | None ↦ Err faults.BadCast ])
from_text ty (Some n) to = fitting_fits ty n (whole_integer ty.kind to)
from_text ty None to = tt

-- a decimal as another, and a date as a timestamp
from_decimal : (precision scale : ℕ) (to : Kind) (nullable : Bool) (n : ℤ) → is_cast_of (kinds.Decimal precision scale) to ≡ true → IsOf (type_with to nullable) (converted (kinds.Decimal precision scale) to (values.Dec n))
from_decimal precision scale (kinds.Decimal wide_precision wide_scale) nullable n to = decimal_or_fits (type_with (kinds.Decimal wide_precision wide_scale) nullable) faults.BadCast (rescaled scale wide_scale n) refl
from_decimal precision scale _ nullable n to = absurd (cc)

from_date : (to : Kind) (nullable : Bool) (n : ℤ) → is_cast_of kinds.Date to ≡ true → IsOf (type_with to nullable) (converted kinds.Date to (values.Int n))
from_date kinds.Timestamp nullable n to = fitting_fits (type_with kinds.Timestamp nullable) (n *ℤ DAY) refl
from_date _ nullable n to = absurd (cc)

-- a value of one kind as one of another
of_whole : (from : Kind) (ty : Ty) (value : Value) → is_whole from ≡ true → is_cast_of_whole ty.kind ≡ true → InKind from value → (value ≡ values.Null → IsTrue ty.nullable) → IsOf ty (converted from ty.kind value)
of_whole from ty value is to fits nullable =
    by_whole (λ one. (one ≡ values.Null → IsTrue ty.nullable) → IsOf ty (converted from ty.kind one)) from is (λ null. null_of ty (null refl)) (λ n of _. from_whole from ty n is to of) value fits nullable

pub converted_fits : (from : Kind) (ty : Ty) (value : Value) → is_cast_of from ty.kind ≡ true → InKind from value → (value ≡ values.Null → IsTrue ty.nullable) → IsOf ty (converted from ty.kind value)
converted_fits kinds.I8 ty value to fits nullable = of_whole kinds.I8 ty value refl to fits nullable
converted_fits kinds.I16 ty value to fits nullable = of_whole kinds.I16 ty value refl to fits nullable
converted_fits kinds.I32 ty value to fits nullable = of_whole kinds.I32 ty value refl to fits nullable
converted_fits kinds.I64 ty value to fits nullable = of_whole kinds.I64 ty value refl to fits nullable
converted_fits kinds.Text ty value to fits nullable =
    by_text (λ one. (one ≡ values.Null → IsTrue ty.nullable) → IsOf ty (converted kinds.Text ty.kind one)) kinds.Text refl (λ null. null_of ty (null refl)) (λ text _ _. from_text ty (number_of text) to) value fits nullable
converted_fits (kinds.Decimal precision scale) ty value to fits nullable =
    by_decimal (λ one. (one ≡ values.Null → IsTrue ty.nullable) → IsOf ty (converted (kinds.Decimal precision scale) ty.kind one)) (kinds.Decimal precision scale) refl (λ null. null_of ty (null refl))
    (λ n _. from_decimal precision scale ty.kind ty.nullable n to) value fits nullable
converted_fits kinds.Date ty value to fits nullable =
    by_integer (λ one. (one ≡ values.Null → IsTrue ty.nullable) → IsOf ty (converted kinds.Date ty.kind one)) kinds.Date refl (λ null. null_of ty (null refl)) (λ n _ _. from_date ty.kind ty.nullable n to) value fits nullable
converted_fits kinds.Bool ty value to fits nullable = absurd (cc)
converted_fits kinds.Binary ty value to fits nullable = absurd (cc)
converted_fits kinds.Timestamp ty value to fits nullable = absurd (cc)

cast_where : (same : Bool) (from ty : Ty) (value : Value) → is_equal from.kind ty.kind ≡ same → (same || is_cast_of from.kind ty.kind) ≡ true → (IsTrue from.nullable → IsTrue ty.nullable) → FitsTy from value
    → IsOf ty (if same then Ok value else converted from.kind ty.kind value)
cast_where true from ty value equal can nullable fits = moved from ty value (sym (equal_kinds from.kind ty.kind equal)) nullable fits
cast_where false from ty value equal can nullable fits = converted_fits from.kind ty value can fits.in_kind (λ e. nullable (fits.allowed e))

or_null_fits : (ty : Ty) (null_on_fail : Bool) (computed : Computed) → (IsTrue null_on_fail → IsTrue ty.nullable) → IsOf ty computed → IsOf ty (or_null null_on_fail computed)
or_null_fits ty true (Ok value) nullable fits = fits
or_null_fits ty true (Err fault) nullable fits = null_of ty (nullable refl)
or_null_fits ty false (Ok value) nullable fits = fits
or_null_fits ty false (Err fault) nullable fits = tt

pub cast_fits : (from ty : Ty) (null_on_fail : Bool) (value : Value) → IsTrue (can_cast from.kind ty.kind) → (IsTrue from.nullable → IsTrue ty.nullable) → (IsTrue null_on_fail → IsTrue ty.nullable) → FitsTy from value
    → IsOf ty (or_null null_on_fail (cast from.kind ty.kind value))
cast_fits from ty null_on_fail value can nullable fails fits =
    or_null_fits ty null_on_fail (cast from.kind ty.kind value) fails (cast_where (is_equal from.kind ty.kind) from ty value refl can nullable fits)
