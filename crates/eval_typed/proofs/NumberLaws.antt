-- What the functions of whole numbers and decimals give fits their result's type.
use Rattle.std.proofs.Common.{◌≡◌, ℕ, ◌^◌, ◌<◌, ◌≤◌, ℤ, pos, negsuc, ◌*ℤ◌, neg_ℤ, Bool, true, [], ◌∷◌, Ok, Err, IsTrue, min, unsigned_abs, nat_lt, refl, arith, lit<}
use Rattle.std.specs.Prelude.{FitsSigned}
use Rattle.std.specs.Int.{w8, w16, w32, w64, saturate_to_bits}
use Rattle.std.proofs.Math.Nat.{pow-le-pow_right}
use Rattle.std.proofs.lemmas.Bool.{ltb-true}
use Rattle.std.proofs.lemmas.Bool.Decides.{nat_tests}
use Rattle.std.proofs.lemmas.Int.{ints, SFits-int_wrap}
use Rattle.sub_types.specs.Value.{InKind, FitsTy}
use Rattle.sub_types.specs.declared.fault.FaultKind.{FaultKind}
use Rattle.sub_types.specs.declared.fault.FaultKind.TheVariants as faults
use Rattle.sub_types.specs.declared.kind.Kind.{Kind}
use Rattle.sub_types.specs.declared.kind.Kind.TheVariants as kinds
use Rattle.sub_types.specs.declared.kind.Ty.{Ty}
use Rattle.sub_types.specs.declared.value.Value.{Value}
use Rattle.sub_types.specs.declared.value.Value.TheVariants as values
use Rattle.plan_typed.specs.declared.expr.Overflow.{Overflow}
use Rattle.plan_typed.specs.declared.expr.Overflow.TheVariants as modes
use Rattle.func_table.specs.Kinds.{scale_of}
use Rattle.well_typed.specs.Casts.{is_whole}
use Rattle.well_typed.specs.Types.{type_with}
use Rattle.plan_denote.specs.Computed.{Computed, null}
use Rattle.plan_denote.specs.Whole.{bits_of, wrapped, is_within, beyond, whole, is_zero, divided, negated, absolute}
use Rattle.plan_denote.specs.Decimals.{MAX_DIGITS, decimal_or, rescaled, combined, product}
use Rattle.eval_typed.proofs.Fit.{IsOf, number_fits, decimal_fits, either_of}
use Rattle.eval_typed.proofs.KindLaws.{is_decimal, is_integer, whole_integer, by_whole, by_decimal}
use Rattle.eval_typed.proofs.LogicLaws.{null_of}

-- a number within so many bits
within8 : (n : ℤ) → is_within 7 n ≡ true → FitsSigned w8 n
within8 (pos n) h = grind (arith, nat_tests, ints)
within8 (negsuc n) h = grind (arith, nat_tests, ints)

within16 : (n : ℤ) → is_within 15 n ≡ true → FitsSigned w16 n
within16 (pos n) h = grind (arith, nat_tests, ints)
within16 (negsuc n) h = grind (arith, nat_tests, ints)

within32 : (n : ℤ) → is_within 31 n ≡ true → FitsSigned w32 n
within32 (pos n) h = grind (arith, nat_tests, ints)
within32 (negsuc n) h = grind (arith, nat_tests, ints)

within64 : (n : ℤ) → is_within 63 n ≡ true → FitsSigned w64 n
within64 (pos n) h = grind (arith, nat_tests, ints)
within64 (negsuc n) h = grind (arith, nat_tests, ints)

pub within_kind : (kind : Kind) (n : ℤ) → is_integer kind ≡ true → is_within (bits_of kind) n ≡ true → InKind kind (values.Int n)
within_kind kinds.I8 n is within = within8 n within
within_kind kinds.I16 n is within = within16 n within
within_kind kinds.I32 n is within = within32 n within
within_kind kinds.I64 n is within = within64 n within
within_kind kinds.Date n is within = within32 n within
within_kind kinds.Timestamp n is within = within64 n within
within_kind kinds.Bool n is within = absurd (cc)
within_kind kinds.Text n is within = absurd (cc)
within_kind kinds.Binary n is within = absurd (cc)
within_kind (kinds.Decimal precision scale) n is within = absurd (cc)

-- the nearest number of so many bits
nearest8 : (n : ℤ) → FitsSigned w8 (saturate_to_bits 7 n)
nearest8 (pos n) = record { sfits = omega arith }
nearest8 (negsuc n) = record { sfits = omega arith }

nearest16 : (n : ℤ) → FitsSigned w16 (saturate_to_bits 15 n)
nearest16 (pos n) = record { sfits = omega arith }
nearest16 (negsuc n) = record { sfits = omega arith }

nearest32 : (n : ℤ) → FitsSigned w32 (saturate_to_bits 31 n)
nearest32 (pos n) = record { sfits = omega arith }
nearest32 (negsuc n) = record { sfits = omega arith }

nearest64 : (n : ℤ) → FitsSigned w64 (saturate_to_bits 63 n)
nearest64 (pos n) = record { sfits = omega arith }
nearest64 (negsuc n) = record { sfits = omega arith }

nearest_kind : (kind : Kind) (n : ℤ) → is_whole kind ≡ true → InKind kind (values.Int (saturate_to_bits (bits_of kind) n))
nearest_kind kinds.I8 n is = nearest8 n
nearest_kind kinds.I16 n is = nearest16 n
nearest_kind kinds.I32 n is = nearest32 n
nearest_kind kinds.I64 n is = nearest64 n
nearest_kind kinds.Date n is = absurd (cc)
nearest_kind kinds.Timestamp n is = absurd (cc)
nearest_kind kinds.Bool n is = absurd (cc)
nearest_kind kinds.Text n is = absurd (cc)
nearest_kind kinds.Binary n is = absurd (cc)
nearest_kind (kinds.Decimal precision scale) n is = absurd (cc)

-- what is left in the kind's bits
wrapped_kind : (kind : Kind) (n : ℤ) → is_whole kind ≡ true → InKind kind (values.Int (wrapped kind n))
wrapped_kind kinds.I8 n is = SFits-int_wrap w8 n
wrapped_kind kinds.I16 n is = SFits-int_wrap w16 n
wrapped_kind kinds.I32 n is = SFits-int_wrap w32 n
wrapped_kind kinds.I64 n is = SFits-int_wrap w64 n
wrapped_kind kinds.Date n is = absurd (cc)
wrapped_kind kinds.Timestamp n is = absurd (cc)
wrapped_kind kinds.Bool n is = absurd (cc)
wrapped_kind kinds.Text n is = absurd (cc)
wrapped_kind kinds.Binary n is = absurd (cc)
wrapped_kind (kinds.Decimal precision scale) n is = absurd (cc)

beyond_fits : (ty : Ty) (mode : Overflow) (n : ℤ) → is_whole ty.kind ≡ true → IsOf ty (beyond mode ty.kind n)
beyond_fits ty modes.Error n is = tt
beyond_fits ty modes.Saturate n is = number_fits ty (saturate_to_bits (bits_of ty.kind) n) (nearest_kind ty.kind n is)
beyond_fits ty modes.Silent n is = number_fits ty (wrapped ty.kind n) (wrapped_kind ty.kind n is)

-- an exact result in its kind, in each mode
pub whole_fits : (ty : Ty) (mode : Overflow) (n : ℤ) → is_whole ty.kind ≡ true → IsOf ty (whole ty.kind mode n)
whole_fits ty mode n is =
    either_of (is_within (bits_of ty.kind) n) (Ok (values.Int n)) (beyond mode ty.kind n) ty
    (λ within. number_fits ty n (within_kind ty.kind n (whole_integer ty.kind is) within)) (λ _. beyond_fits ty mode n is)

-- a function of one whole number, and of two
pub one_whole : (function : Value → Computed) (t ty : Ty) (a : Value) → is_whole t.kind ≡ true → (IsTrue t.nullable → IsTrue ty.nullable) → FitsTy t a
    → (function values.Null ≡ null) → ((n : ℤ) → IsOf ty (function (values.Int n))) → IsOf ty (function a)
one_whole function t ty a is nullable fits of_null k =
    by_whole (λ one. FitsTy t one → IsOf ty (function one)) t.kind is (λ fit. rw of_null (null_of ty (nullable (fit.allowed refl)))) (λ n _ fit. k n) a fits.in_kind fits

pub two_whole : (function : Value → Value → Computed) (t u ty : Ty) (a b : Value) → is_whole t.kind ≡ true → is_whole u.kind ≡ true → (IsTrue t.nullable → IsTrue ty.nullable) → (IsTrue u.nullable → IsTrue ty.nullable)
    → FitsTy t a → FitsTy u b → ((b : Value) → function values.Null b ≡ null) → ((n : ℤ) → function (values.Int n) values.Null ≡ null) → ((m n : ℤ) → IsOf ty (function (values.Int m) (values.Int n))) → IsOf ty (function a b)
two_whole function t u ty a b is other nullable second fits others of_null to_null k =
    one_whole (λ one. function one b) t ty a is nullable fits (of_null b) (λ m. one_whole (function (values.Int m)) u ty b other second others (to_null m) (k m))

-- a decimal of at most the precision's digits, or a fault
below : (precision : ℕ) (n : ℤ) → nat_lt (unsigned_abs n) (10 ^ min precision MAX_DIGITS) ≡ true → unsigned_abs n < 10 ^ precision
below precision n small =
    let fewer : min precision MAX_DIGITS ≤ precision = omega arith in
    let wider : 10 ^ min precision MAX_DIGITS ≤ 10 ^ precision = pow-le-pow_right (lit< tt) fewer in
    omega (arith, wider, ltb-true (unsigned_abs n) (10 ^ min precision MAX_DIGITS) small)

decimal_or_kind : (kind : Kind) (nullable : Bool) (fault : FaultKind) (n : ℤ) → is_decimal kind ≡ true → IsOf (type_with kind nullable) (decimal_or fault kind n)
decimal_or_kind (kinds.Decimal precision scale) nullable fault n is =
    either_of (nat_lt (unsigned_abs n) (10 ^ min precision MAX_DIGITS)) (Ok (values.Dec n)) (Err fault) (type_with (kinds.Decimal precision scale) nullable)
    (λ small. decimal_fits (type_with (kinds.Decimal precision scale) nullable) n (below precision n small)) (λ _. tt)
decimal_or_kind _ nullable fault n is = absurd (cc)

pub decimal_or_fits : (ty : Ty) (fault : FaultKind) (n : ℤ) → is_decimal ty.kind ≡ true → IsOf ty (decimal_or fault ty.kind n)
decimal_or_fits ty fault n is = decimal_or_kind ty.kind ty.nullable fault n is

-- a function of two decimals
one_decimal : (function : Value → Computed) (t ty : Ty) (a : Value) → is_decimal t.kind ≡ true → (IsTrue t.nullable → IsTrue ty.nullable) → FitsTy t a
    → (function values.Null ≡ null) → ((n : ℤ) → IsOf ty (function (values.Dec n))) → IsOf ty (function a)
one_decimal function t ty a is nullable fits of_null k =
    by_decimal (λ one. FitsTy t one → IsOf ty (function one)) t.kind is (λ fit. rw of_null (null_of ty (nullable (fit.allowed refl)))) (λ n fit. k n) a fits.in_kind fits

two_decimals : (function : Value → Value → Computed) (t u ty : Ty) (a b : Value) → is_decimal t.kind ≡ true → is_decimal u.kind ≡ true → (IsTrue t.nullable → IsTrue ty.nullable) → (IsTrue u.nullable → IsTrue ty.nullable)
    → FitsTy t a → FitsTy u b → ((b : Value) → function values.Null b ≡ null) → ((n : ℤ) → function (values.Dec n) values.Null ≡ null) → ((m n : ℤ) → IsOf ty (function (values.Dec m) (values.Dec n))) → IsOf ty (function a b)
two_decimals function t u ty a b is other nullable second fits others of_null to_null k =
    one_decimal (λ one. function one b) t ty a is nullable fits (of_null b) (λ m. one_decimal (function (values.Dec m)) u ty b other second others (to_null m) (k m))

module _ (t u ty : Ty) (mode : Overflow) (a b : Value) (nullable : IsTrue t.nullable → IsTrue ty.nullable) (second : IsTrue u.nullable → IsTrue ty.nullable) (fits : FitsTy t a) (others : FitsTy u b) where
  -- of whole numbers
  pub combined_fits : (operation : ℤ → ℤ → ℤ) → is_whole t.kind ≡ true → is_whole u.kind ≡ true → is_whole ty.kind ≡ true → IsOf ty (combined operation ty.kind mode (t.kind ∷ u.kind ∷ []) a b)
  combined_fits operation one other is =
      two_whole (combined operation ty.kind mode (t.kind ∷ u.kind ∷ [])) t u ty a b one other nullable second fits others (λ b. refl) (λ n. refl) (λ m n. whole_fits ty mode (operation m n) is)

  pub product_fits : is_whole t.kind ≡ true → is_whole u.kind ≡ true → is_whole ty.kind ≡ true → IsOf ty (product ty.kind mode a b)
  product_fits one other is = two_whole (product ty.kind mode) t u ty a b one other nullable second fits others (λ b. refl) (λ n. refl) (λ m n. whole_fits ty mode (m *ℤ n) is)

  pub divided_fits : (operation : ℤ → ℤ → ℤ) → is_whole t.kind ≡ true → is_whole u.kind ≡ true → is_whole ty.kind ≡ true → IsOf ty (divided operation ty.kind mode a b)
  divided_fits operation one other is =
      two_whole (divided operation ty.kind mode) t u ty a b one other nullable second fits others (λ b. refl) (λ n. refl)
      (λ m n. either_of (is_zero n) (Err faults.DivideByZero) (whole ty.kind mode (operation m n)) ty (λ _. tt) (λ _. whole_fits ty mode (operation m n) is))

  -- of decimals
  pub combined_decimals_fit : (operation : ℤ → ℤ → ℤ) → is_decimal t.kind ≡ true → is_decimal u.kind ≡ true → is_decimal ty.kind ≡ true → IsOf ty (combined operation ty.kind mode (t.kind ∷ u.kind ∷ []) a b)
  combined_decimals_fit operation one other is =
      two_decimals (combined operation ty.kind mode (t.kind ∷ u.kind ∷ [])) t u ty a b one other nullable second fits others (λ b. refl) (λ n. refl)
      (λ m n. decimal_or_fits ty faults.Overflow (operation (rescaled (scale_of t.kind) (scale_of ty.kind) m) (rescaled (scale_of u.kind) (scale_of ty.kind) n)) is)

  pub decimal_product_fits : is_decimal t.kind ≡ true → is_decimal u.kind ≡ true → is_decimal ty.kind ≡ true → IsOf ty (product ty.kind mode a b)
  decimal_product_fits one other is =
      two_decimals (product ty.kind mode) t u ty a b one other nullable second fits others (λ b. refl) (λ n. refl) (λ m n. decimal_or_fits ty faults.Overflow (m *ℤ n) is)

module _ (t ty : Ty) (mode : Overflow) (a : Value) (nullable : IsTrue t.nullable → IsTrue ty.nullable) (fits : FitsTy t a) (one : is_whole t.kind ≡ true) (is : is_whole ty.kind ≡ true) where
  pub negated_fits : IsOf ty (negated ty.kind mode a)
  negated_fits = one_whole (negated ty.kind mode) t ty a one nullable fits refl (λ n. whole_fits ty mode (neg_ℤ n) is)

  pub absolute_fits : IsOf ty (absolute ty.kind mode a)
  absolute_fits = one_whole (absolute ty.kind mode) t ty a one nullable fits refl (λ n. whole_fits ty mode (pos (unsigned_abs n)) is)
