-- Exact sums in two parts.
use Rattle.std.specs.Prelude.{◌≡◌, ℕ, ◌+◌, ◌*◌, ◌/◌, ◌%◌, ◌^◌, ◌<◌, ◌≤◌, ℤ, pos, negsuc, ◌+ℤ◌, ◌*ℤ◌, neg_ℤ, Bool, true, false, int_div, int_rem, unsigned_abs}
use Rattle.std.proofs.Common.{zero, suc, refl, sym, ap, ◌∙◌, arith, lit<, Err, Ok, nat_lt, min, if◌then◌else◌}
use Rattle.std.proofs.Math.Nat.{pow-le-pow_right}
use Rattle.std.proofs.lemmas.Bool.Decides.{nat_tests}
use Rattle.std.proofs.lemmas.Int.{ints, quot-rem}
use Rattle.std.proofs.lemmas.Nat.{div-add-mod'}
use native.Mathlib.Nat.{add-mul-div_right, add_comm, div-eq_of_lt, zero-lt-suc}
use Rattle.sub_types.specs.declared.fault.FaultKind.TheVariants as faults
use Rattle.sub_types.specs.declared.kind.Kind.{Kind}
use Rattle.sub_types.specs.declared.kind.Kind.TheVariants as kinds
use Rattle.sub_types.specs.declared.value.Value.TheVariants as values
use Rattle.plan_typed.specs.declared.expr.Overflow.TheVariants as modes
use Rattle.plan_denote.specs.Whole.{bits_of, is_within, whole}
use Rattle.plan_denote.specs.Tally.{in_kind}
use Rattle.group_tallies.specs.declared.exact.Exact.{Exact}
use Rattle.group_tallies.specs.Totals.{magnitude_of, number_of, signed}

-- what the low part has too much is put to the high part
carried_by : (high low q r : ℤ) → (q *ℤ pos (2 ^ 64)) +ℤ r ≡ low → ((high +ℤ q) *ℤ pos (2 ^ 64)) +ℤ r ≡ (high *ℤ pos (2 ^ 64)) +ℤ low
carried_by high low q r e = omega (arith, ints)

pub carried : (high low : ℤ) → ((high +ℤ int_div low (pos (2 ^ 64))) *ℤ pos (2 ^ 64)) +ℤ int_rem low (pos (2 ^ 64)) ≡ (high *ℤ pos (2 ^ 64)) +ℤ low
carried high low = carried_by high low (int_div low (pos (2 ^ 64))) (int_rem low (pos (2 ^ 64))) (quot-rem low (pos (2 ^ 64)))

turned : (number : ℤ) → neg_ℤ (neg_ℤ number) ≡ number
turned number = omega (arith, ints)

pub below_zero : (exact : Exact) (number whole : ℤ) → exact.negative ≡ true → pos (magnitude_of exact) ≡ neg_ℤ number → number ≡ whole → number_of exact ≡ whole
below_zero exact number whole sign size value = ap (λ b. signed b (magnitude_of exact)) sign ∙ ap neg_ℤ size ∙ turned number ∙ value

pub from_zero : (exact : Exact) (number whole : ℤ) → exact.negative ≡ false → pos (magnitude_of exact) ≡ number → number ≡ whole → number_of exact ≡ whole
from_zero exact number whole sign size value = ap (λ b. signed b (magnitude_of exact)) sign ∙ size ∙ value

-- a quotient by its parts
spread : (q r c low : ℕ) → (q * c + r) * 2 ^ 64 + low ≡ (r * 2 ^ 64 + low) + q * 2 ^ 64 * c
spread q r c low = omega arith

pub quotient_by_parts : (high low c : ℕ) → 0 < c → high / c * 2 ^ 64 + (high % c * 2 ^ 64 + low) / c ≡ (high * 2 ^ 64 + low) / c
quotient_by_parts high low c h =
    add_comm (high / c * 2 ^ 64) ((high % c * 2 ^ 64 + low) / c)
    ∙ sym (add-mul-div_right (high % c * 2 ^ 64 + low) (high / c * 2 ^ 64) h)
    ∙ ap (λ n. n / c) (sym (spread (high / c) (high % c) c low) ∙ ap (λ n. n * 2 ^ 64 + low) (div-add-mod' high c))

-- a quotient that is truncated toward zero, by sign and size
zero_parts : (c : ℕ) → 0 / c ≡ 0
zero_parts zero = refl
zero_parts (suc c) = div-eq_of_lt (zero-lt-suc c)

pub truncated : (negative : Bool) (size count : ℕ) → int_div (signed negative size) (pos count) ≡ signed negative (size / count)
truncated false size count = refl
truncated true zero count = ap pos (zero_parts count) ∙ sym (ap (λ n. neg_ℤ (pos n)) (zero_parts count))
truncated true (suc size) count = refl

pub average_is : (total average : Exact) (count : ℕ) (exact : ℤ) → number_of total ≡ exact → magnitude_of average ≡ magnitude_of total / count → average.negative ≡ total.negative → number_of average ≡ int_div exact (pos count)
average_is total average count exact value size sign =
    ap (λ b. signed b (magnitude_of average)) sign
    ∙ ap (signed total.negative) size
    ∙ sym (truncated total.negative (magnitude_of total) count)
    ∙ ap (λ z. int_div z (pos count)) value

-- powers of ten that 128 bits hold
pub power_small : (e : ℕ) → e ≤ 38 → 10 ^ e ≤ 10 ^ 38
power_small e l = pow-le-pow_right (lit< tt) l

-- a number of more than 38 digits is in no kind
below_by : (bound n : ℕ) → bound ≤ n → nat_lt n bound ≡ false
below_by bound n h = grind (arith, nat_tests)

not_below : (n bound : ℕ) → bound ≤ 10 ^ 38 → 10 ^ 38 ≤ n → nat_lt n bound ≡ false
not_below n bound b h = below_by bound n (omega arith)

not_within : (bits : ℕ) (exact : ℤ) → 2 ^ bits ≤ 2 ^ 63 → 10 ^ 38 ≤ unsigned_abs exact → is_within bits exact ≡ false
not_within bits (pos n) b h = not_below n (2 ^ bits) (omega arith) h
not_within bits (negsuc n) b h = below_by (2 ^ bits) n (omega arith)

no_whole : (kind : Kind) (exact : ℤ) → 2 ^ bits_of kind ≤ 2 ^ 63 → 10 ^ 38 ≤ unsigned_abs exact → Err faults.Overflow ≡ whole kind modes.Error exact
no_whole kind exact b h = sym (ap (λ t. if t then Ok (values.Int exact) else Err faults.Overflow) (not_within (bits_of kind) exact b h))

no_decimal : (precision scale : ℕ) (exact : ℤ) → 10 ^ 38 ≤ unsigned_abs exact → Err faults.Overflow ≡ in_kind (kinds.Decimal precision scale) exact
no_decimal precision scale exact h =
    let few : min precision 38 ≤ 38 = omega arith in
    sym (ap (λ t. if t then Ok (values.Dec exact) else Err faults.Overflow) (not_below (unsigned_abs exact) (10 ^ min precision 38) (power_small (min precision 38) few) h))

pub in_no_kind : (kind : Kind) (exact : ℤ) → 10 ^ 38 ≤ unsigned_abs exact → Err faults.Overflow ≡ in_kind kind exact
in_no_kind kinds.Bool exact h = no_whole kinds.Bool exact (omega arith) h
in_no_kind kinds.I8 exact h = no_whole kinds.I8 exact (omega arith) h
in_no_kind kinds.I16 exact h = no_whole kinds.I16 exact (omega arith) h
in_no_kind kinds.I32 exact h = no_whole kinds.I32 exact (omega arith) h
in_no_kind kinds.I64 exact h = no_whole kinds.I64 exact (omega arith) h
in_no_kind kinds.Text exact h = no_whole kinds.Text exact (omega arith) h
in_no_kind kinds.Binary exact h = no_whole kinds.Binary exact (omega arith) h
in_no_kind kinds.Date exact h = no_whole kinds.Date exact (omega arith) h
in_no_kind kinds.Timestamp exact h = no_whole kinds.Timestamp exact (omega arith) h
in_no_kind (kinds.Decimal precision scale) exact h = no_decimal precision scale exact h
