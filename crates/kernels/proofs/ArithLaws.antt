-- Arithmetic with bounded results: the definitions of the plan, and the forms that the code computes.
use Rattle.std.proofs.Common.{◌≡◌, ◌∙◌, ℕ, zero, suc, ◌-◌, ◌^◌, ◌<◌, ◌≤◌, ℤ, pos, negsuc, neg_ℤ, ◌/◌, ◌⊎◌, ◌<ℤ◌, ◌≤ℤ◌, ◌+ℤ◌, ◌-ℤ◌, ◌*ℤ◌, [], ◌∷◌, Bool, true, false, ltb, min, Option, Some, None, Result, Ok, Err, inl, inr, FitsSigned, refl, sym, ap, ap₂, arith, lit<}
use Rattle.std.specs.Prelude.{int_lt, int_div, int_rem, unsigned_abs, if◌then◌else◌, ◌&&◌}
use Rattle.std.specs.Int.{Width, w8, w16, w32, w64, w128}
use Rattle.std.proofs.lemmas.Int.{ints, fits_signed_from_abs, fits_signed_mul, rem_below}
use Rattle.std.proofs.lemmas.Bool.{cases_lt, le-leb, lt-ltb, le-ltb, ltb-false}
use Rattle.std.proofs.Math.Nat.{one-le-pow, div-le_self}
use mir.Val.{bits, hbits}
use Rattle.sub_types.specs.declared.kind.Kind.{Kind}
use Rattle.sub_types.specs.declared.fault.FaultKind.{FaultKind}
use Rattle.sub_types.specs.declared.fault.FaultKind.TheVariants as faults
use Rattle.sub_types.specs.declared.value.Value.TheVariants as values
use Rattle.sub_types.specs.declared.kind.Kind.TheVariants as kinds
use Rattle.sub_types.specs.Nullable.{int_value, dec_value}
use Rattle.plan_typed.specs.declared.expr.Overflow.{Overflow}
use Rattle.plan_typed.specs.declared.expr.Overflow.TheVariants as modes
use Rattle.plan_denote.specs.Whole as whole
use Rattle.plan_denote.specs.Calls.{binary}
use Rattle.plan_denote.specs.Decimals.{MAX_DIGITS, rescaled, decimal_or}
use Rattle.plan_denote.specs.Computed.{Computed}
use Rattle.kernels.specs.declared.op.ArithOp.{ArithOp}
use Rattle.kernels.specs.declared.op.ArithOp.TheVariants.{Add, Subtract, Multiply, Divide, Modulus}
use Rattle.kernels.specs.Arith.{IsWholeKind, IsDecimalKind, func_of, divides, exact, beyond, settled, computed, row, some_of}
use Rattle.kernels.proofs.UntilLaws.{result_map}

-- what lies between two numbers of a type is one
pub between : (w : Width) (least n greatest : ℤ) → FitsSigned w least → FitsSigned w greatest → int_lt n least ≡ false → int_lt greatest n ≡ false → FitsSigned w n
between w least (pos n) (pos greatest) fl fg low high = let le = ltb-false greatest n high in record { sfits = omega (arith, le, fg.sfits) }
between w least (pos n) (negsuc greatest) fl fg low high = absurd (cc)
between w (pos least) (negsuc n) greatest fl fg low high = absurd (cc)
between w (negsuc least) (negsuc n) greatest fl fg low high = let le = ltb-false least n low in record { sfits = omega (arith, le, fl.sfits) }

pub settled-within : (mode : Overflow) (w : Width) (least greatest n r : ℤ) → int_lt n least ≡ false → int_lt greatest n ≡ false → r ≡ n → Ok r ≡ settled mode w least greatest n
settled-within mode w least greatest n r low high is = rw (low, high) (ap Ok is)

-- ---- numbers of at most 64 bits, whose results 128 bits hold

half : (w : Width) → bits w ≤ 64 → 2 ^ hbits w ≤ 2 ^ 63
half w8 few = omega arith
half w16 few = omega arith
half w32 few = omega arith
half w64 few = omega arith
half w128 few = absurd (omega arith)

pub abs-narrow : (w : Width) → bits w ≤ 64 → (x : ℤ) → FitsSigned w x → unsigned_abs x ≤ 2 ^ 63
abs-narrow w few (pos n) f = omega (arith, f.sfits, half w few)
abs-narrow w few (negsuc n) f = omega (arith, f.sfits, half w few)

abs-neg : (n : ℕ) → unsigned_abs (neg_ℤ (pos n)) ≡ n
abs-neg zero = refl
abs-neg (suc n) = refl

abs-div : (x y : ℤ) → unsigned_abs (int_div x y) ≤ unsigned_abs x
abs-div (pos a) (pos b) = div-le_self a b
abs-div (pos a) (negsuc b) = omega (arith, abs-neg (a / suc b), div-le_self a (suc b))
abs-div (negsuc a) (pos b) = omega (arith, abs-neg (suc a / b), div-le_self (suc a) b)
abs-div (negsuc a) (negsuc b) = div-le_self (suc a) (suc b)

abs-some : (y : ℤ) → whole.is_zero y ≡ false → 0 < unsigned_abs y
abs-some (pos zero) some = absurd (cc)
abs-some (pos (suc n)) some = omega arith
abs-some (negsuc n) some = omega arith

narrow-exact : (w : Width) → bits w ≤ 64 → (op : ArithOp) (x y : ℤ) → FitsSigned w x → FitsSigned w y → (divides op && whole.is_zero y) ≡ false → FitsSigned w128 (exact op x y)
narrow-exact w few Add x y fx fy some = let ax = abs-narrow w few x fx in let ay = abs-narrow w few y fy in fits_signed_from_abs w128 (x +ℤ y) (omega (arith, ints))
narrow-exact w few Subtract x y fx fy some = let ax = abs-narrow w few x fx in let ay = abs-narrow w few y fy in fits_signed_from_abs w128 (x -ℤ y) (omega (arith, ints))
narrow-exact w few Multiply x y fx fy some = fits_signed_mul w128 x y (2 ^ 63) (2 ^ 63) (abs-narrow w few x fx) (abs-narrow w few y fy) (omega arith)
narrow-exact w few Divide x y fx fy some = let ax = abs-narrow w few x fx in let smaller = abs-div x y in fits_signed_from_abs w128 (int_div x y) (omega arith)
narrow-exact w few Modulus x y fx fy some = let ay = abs-narrow w few y fy in let smaller = rem_below x y (abs-some y some) in fits_signed_from_abs w128 (int_rem x y) (omega arith)

-- what 128 bits don't hold is a fault in each mode
wide-beyond : (mode : Overflow) (end n : ℤ) → beyond mode w128 end n ≡ Err faults.Overflow
wide-beyond modes.Error end n = refl
wide-beyond modes.Saturate end n = refl
wide-beyond modes.Silent end n = refl

wide-settled : (mode : Overflow) (least greatest n : ℤ) → FitsSigned w128 least → FitsSigned w128 greatest → (FitsSigned w128 n → ⊥) → settled mode w128 least greatest n ≡ Err faults.Overflow
wide-settled mode least greatest n fl fg lost = go (int_lt n least) (int_lt greatest n) refl refl
  where
    go : (a b : Bool) → int_lt n least ≡ a → int_lt greatest n ≡ b → settled mode w128 least greatest n ≡ Err faults.Overflow
    go true b ea eb = rw ea (wide-beyond mode least n)
    go false true ea eb = rw (ea, eb) (wide-beyond mode greatest n)
    go false false ea eb = absurd (lost (between w128 least n greatest fl fg ea eb))

narrow-lost : (w : Width) → bits w ≤ 64 → (op : ArithOp) (mode : Overflow) (least greatest x y : ℤ) → FitsSigned w x → FitsSigned w y → (divides op && whole.is_zero y) ≡ false → (FitsSigned w128 (exact op x y) → ⊥) → Err faults.Overflow ≡ computed op mode w least greatest x y
narrow-lost w few op mode least greatest x y fx fy some lost = absurd (lost (narrow-exact w few op x y fx fy some))

pub lost-is : (w : Width) (op : ArithOp) (mode : Overflow) (least greatest x y : ℤ) → FitsSigned w least → FitsSigned w greatest → FitsSigned w x → FitsSigned w y → (divides op && whole.is_zero y) ≡ false → (FitsSigned w128 (exact op x y) → ⊥) → Err faults.Overflow ≡ computed op mode w least greatest x y
lost-is w8 op mode least greatest x y fl fg fx fy some lost = narrow-lost w8 (omega arith) op mode least greatest x y fx fy some lost
lost-is w16 op mode least greatest x y fl fg fx fy some lost = narrow-lost w16 (omega arith) op mode least greatest x y fx fy some lost
lost-is w32 op mode least greatest x y fl fg fx fy some lost = narrow-lost w32 (omega arith) op mode least greatest x y fx fy some lost
lost-is w64 op mode least greatest x y fl fg fx fy some lost = narrow-lost w64 (omega arith) op mode least greatest x y fx fy some lost
lost-is w128 op mode least greatest x y fl fg fx fy some lost = rw some (sym (wide-settled mode least greatest (exact op x y) fl fg lost))

-- ---- the definitions of the plan

abbrev pub value : Result (Option ℤ) FaultKind → Computed
value = result_map int_value

module _ (kind : Kind) (w : Width) (least greatest : ℤ) (is : IsWholeKind kind w least greatest) where
  power : 0 < 2 ^ whole.bits_of kind
  power = one-le-pow (whole.bits_of kind) 2 (lit< tt)

  beyond-above : (mode : Overflow) (n : ℕ) → 2 ^ whole.bits_of kind ≤ n → value (some_of (beyond mode w (pos (2 ^ whole.bits_of kind - 1)) (pos n))) ≡ whole.beyond mode kind (pos n)
  beyond-above modes.Error n far = refl
  beyond-above modes.Saturate n far = let nearest : 2 ^ whole.bits_of kind - 1 ≡ min n (2 ^ whole.bits_of kind - 1) = omega arith in rw (le-leb (bits w) 64 is.narrow) (ap (λ m. Ok (int_value (Some (pos m)))) nearest)
  beyond-above modes.Silent n far = rw (le-leb (bits w) 64 is.narrow) (ap (λ m. Ok (int_value (Some m))) (sym (is.wraps (pos n))))

  beyond-below : (mode : Overflow) (n : ℕ) → 2 ^ whole.bits_of kind ≤ n → value (some_of (beyond mode w (negsuc (2 ^ whole.bits_of kind - 1)) (negsuc n))) ≡ whole.beyond mode kind (negsuc n)
  beyond-below modes.Error n far = refl
  beyond-below modes.Saturate n far = let nearest : 2 ^ whole.bits_of kind - 1 ≡ min n (2 ^ whole.bits_of kind - 1) = omega arith in rw (le-leb (bits w) 64 is.narrow) (ap (λ m. Ok (int_value (Some (negsuc m)))) nearest)
  beyond-below modes.Silent n far = rw (le-leb (bits w) 64 is.narrow) (ap (λ m. Ok (int_value (Some m))) (sym (is.wraps (negsuc n))))

  settled-is : (mode : Overflow) (n : ℤ) → value (some_of (settled mode w (negsuc (2 ^ whole.bits_of kind - 1)) (pos (2 ^ whole.bits_of kind - 1)) n)) ≡ whole.whole kind mode n
  settled-is mode (pos n) = elim (cases_lt n (2 ^ whole.bits_of kind)) [
    | inl within ↦ rw (lt-ltb n (2 ^ whole.bits_of kind) within, le-ltb (2 ^ whole.bits_of kind - 1) n (omega (arith, power))) refl
    | inr far ↦ rw (le-ltb n (2 ^ whole.bits_of kind) far, lt-ltb (2 ^ whole.bits_of kind - 1) n (omega (arith, power))) (beyond-above mode n far)
  ]
  settled-is mode (negsuc n) = elim (cases_lt n (2 ^ whole.bits_of kind)) [
    | inl within ↦ rw (lt-ltb n (2 ^ whole.bits_of kind) within, le-ltb (2 ^ whole.bits_of kind - 1) n (omega (arith, power))) refl
    | inr far ↦ rw (le-ltb n (2 ^ whole.bits_of kind) far, lt-ltb (2 ^ whole.bits_of kind - 1) n (omega (arith, power))) (beyond-below mode n far)
  ]

  settled-whole : (mode : Overflow) (n : ℤ) → value (some_of (settled mode w least greatest n)) ≡ whole.whole kind mode n
  settled-whole mode n = rw (is.is_least, is.is_greatest) (settled-is mode n)

  divided-whole : (mode : Overflow) (zero : Bool) (n : ℤ) → value (some_of (if zero then Err faults.DivideByZero else settled mode w least greatest n)) ≡ (if zero then Err faults.DivideByZero else whole.whole kind mode n)
  divided-whole mode true n = refl
  divided-whole mode false n = settled-whole mode n

  -- a row is what the plan's function makes of it
  pub row-whole : (op : ArithOp) (mode : Overflow) (x y : Option ℤ) → value (row op mode w least greatest x y) ≡ binary (func_of op) kind mode (kind ∷ kind ∷ []) (int_value x) (int_value y)
  row-whole Add mode (Some x) (Some y) = settled-whole mode (x +ℤ y)
  row-whole Subtract mode (Some x) (Some y) = settled-whole mode (x -ℤ y)
  row-whole Multiply mode (Some x) (Some y) = settled-whole mode (x *ℤ y)
  row-whole Divide mode (Some x) (Some y) = divided-whole mode (whole.is_zero y) (exact Divide x y)
  row-whole Modulus mode (Some x) (Some y) = divided-whole mode (whole.is_zero y) (exact Modulus x y)
  row-whole Add mode (Some x) None = refl
  row-whole Subtract mode (Some x) None = refl
  row-whole Multiply mode (Some x) None = refl
  row-whole Divide mode (Some x) None = refl
  row-whole Modulus mode (Some x) None = refl
  row-whole Add mode None (Some y) = refl
  row-whole Subtract mode None (Some y) = refl
  row-whole Multiply mode None (Some y) = refl
  row-whole Divide mode None (Some y) = refl
  row-whole Modulus mode None (Some y) = refl
  row-whole Add mode None None = refl
  row-whole Subtract mode None None = refl
  row-whole Multiply mode None None = refl
  row-whole Divide mode None None = refl
  row-whole Modulus mode None None = refl

-- ---- decimals of one scale

abbrev pub decimal_value : Result (Option ℤ) FaultKind → Computed
decimal_value = result_map dec_value

same_scale : (scale : ℕ) (n : ℤ) → rescaled scale scale n ≡ n
same_scale scale n = let none : scale - scale ≡ 0 = omega arith in rw none (times_one n)
  where
    times_one : (n : ℤ) → n *ℤ pos 1 ≡ n
    times_one n = omega (arith, ints)

-- beyond both ends a decimal is a fault, and between them it stands
settled-decimal : (mode : Overflow) (least greatest n : ℤ) (inside : Bool) → ((int_lt n least ≡ false) × (int_lt greatest n ≡ false) × (inside ≡ true)) ⊎ (((int_lt n least ≡ true) ⊎ (int_lt greatest n ≡ true)) × (inside ≡ false)) → decimal_value (some_of (settled mode w128 least greatest n)) ≡ (if inside then Ok (values.Dec n) else Err faults.Overflow)
settled-decimal mode least greatest n inside (inl h) = rw (h.0, h.1, h.2) refl
settled-decimal mode least greatest n inside (inr (inl low, out)) = rw (low, out) (ap (λ r. decimal_value (some_of r)) (wide-beyond mode least n))
settled-decimal mode least greatest n inside (inr (inr high, out)) = rw out (go (int_lt n least) refl)
  where
    go : (b : Bool) → int_lt n least ≡ b → decimal_value (some_of (settled mode w128 least greatest n)) ≡ Err faults.Overflow
    go true e = rw e (ap (λ r. decimal_value (some_of r)) (wide-beyond mode least n))
    go false e = rw (e, high) (ap (λ r. decimal_value (some_of r)) (wide-beyond mode greatest n))

digits-cases : (most : ℕ) → 0 < most → (n : ℤ) → ((int_lt n (neg_ℤ (pos (most - 1))) ≡ false) × (int_lt (pos (most - 1)) n ≡ false) × (ltb (unsigned_abs n) most ≡ true)) ⊎ (((int_lt n (neg_ℤ (pos (most - 1))) ≡ true) ⊎ (int_lt (pos (most - 1)) n ≡ true)) × (ltb (unsigned_abs n) most ≡ false))
digits-cases most some n = elim (cases_lt (unsigned_abs n) most) [
  | inl within ↦ inl (lt_false n (neg_ℤ (pos (most - 1))) (omega (arith, ints)), lt_false (pos (most - 1)) n (omega (arith, ints)), lt-ltb (unsigned_abs n) most within)
  | inr far ↦ inr (ends n far, le-ltb (unsigned_abs n) most far)
]
  where
    lt_false : (a b : ℤ) → b ≤ℤ a → int_lt a b ≡ false
    lt_false (pos a) (pos b) le = le-ltb a b (omega (arith, ints))
    lt_false (pos a) (negsuc b) le = refl
    lt_false (negsuc a) (pos b) le = absurd (omega (arith, ints))
    lt_false (negsuc a) (negsuc b) le = le-ltb b a (omega (arith, ints))

    lt_true : (a b : ℤ) → a <ℤ b → int_lt a b ≡ true
    lt_true (pos a) (pos b) lt = lt-ltb a b (omega (arith, ints))
    lt_true (pos a) (negsuc b) lt = absurd (omega (arith, ints))
    lt_true (negsuc a) (pos b) lt = refl
    lt_true (negsuc a) (negsuc b) lt = lt-ltb b a (omega (arith, ints))

    ends : (n : ℤ) → most ≤ unsigned_abs n → (int_lt n (neg_ℤ (pos (most - 1))) ≡ true) ⊎ (int_lt (pos (most - 1)) n ≡ true)
    ends (pos n) far = inr (lt_true (pos (most - 1)) (pos n) (omega (arith, ints)))
    ends (negsuc n) far = inl (lt_true (negsuc n) (neg_ℤ (pos (most - 1))) (omega (arith, ints)))

module _ (precision scale : ℕ) (w : Width) (least greatest : ℤ) (is : IsDecimalKind precision w least greatest) where
  settled-digits : (mode : Overflow) (n : ℤ) → decimal_value (some_of (settled mode w least greatest n)) ≡ decimal_or faults.Overflow (kinds.Decimal precision scale) n
  settled-digits mode n =
      let most = 10 ^ min precision MAX_DIGITS in
      rw (is.wide, is.is_least, is.is_greatest) (settled-decimal mode (neg_ℤ (pos (most - 1))) (pos (most - 1)) n (ltb (unsigned_abs n) most) (digits-cases most (one-le-pow (min precision MAX_DIGITS) 10 (lit< tt)) n))

  pub row-decimal : (op : ArithOp) (mode : Overflow) (x y : Option ℤ) → divides op ≡ false → decimal_value (row op mode w least greatest x y) ≡ binary (func_of op) (kinds.Decimal precision scale) mode (kinds.Decimal precision scale ∷ kinds.Decimal precision scale ∷ []) (dec_value x) (dec_value y)
  row-decimal Add mode (Some x) (Some y) exact = settled-digits mode (x +ℤ y) ∙ ap₂ (λ x y. decimal_or faults.Overflow (kinds.Decimal precision scale) (x +ℤ y)) (sym (same_scale scale x)) (sym (same_scale scale y))
  row-decimal Subtract mode (Some x) (Some y) exact = settled-digits mode (x -ℤ y) ∙ ap₂ (λ x y. decimal_or faults.Overflow (kinds.Decimal precision scale) (x -ℤ y)) (sym (same_scale scale x)) (sym (same_scale scale y))
  row-decimal Multiply mode (Some x) (Some y) exact = settled-digits mode (x *ℤ y)
  row-decimal Divide mode x y exact = absurd (cc)
  row-decimal Modulus mode x y exact = absurd (cc)
  row-decimal Add mode (Some x) None exact = refl
  row-decimal Subtract mode (Some x) None exact = refl
  row-decimal Multiply mode (Some x) None exact = refl
  row-decimal Add mode None (Some y) exact = refl
  row-decimal Subtract mode None (Some y) exact = refl
  row-decimal Multiply mode None (Some y) exact = refl
  row-decimal Add mode None None exact = refl
  row-decimal Subtract mode None None exact = refl
  row-decimal Multiply mode None None exact = refl
