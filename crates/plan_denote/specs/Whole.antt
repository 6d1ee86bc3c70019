-- The functions of functions_arithmetic.yaml: exact whole numbers, and then the range of the result's kind. add, subtract and
-- multiply stand in `Decimals`, since they take decimals too.
use Rattle.std.specs.Prelude.{ℕ, ◌^◌, ℤ, pos, negsuc, neg_ℤ, Bool, false, Ok, Err, nat_lt, int_div, int_rem, unsigned_abs, ◌==◌, if◌then◌else◌}
use Rattle.std.specs.Int.{w8, w16, w32, w64, saturate_to_bits, int_wrap}
use Rattle.sub_types.specs.declared.fault.FaultKind.TheVariants as faults
use Rattle.sub_types.specs.declared.kind.Kind.{Kind}
use Rattle.sub_types.specs.declared.kind.Kind.TheVariants as kinds
use Rattle.sub_types.specs.declared.value.Value.{Value}
use Rattle.sub_types.specs.declared.value.Value.TheVariants as values
use Rattle.plan_typed.specs.declared.expr.Overflow.{Overflow}
use Rattle.plan_typed.specs.declared.expr.Overflow.TheVariants as modes
use Rattle.plan_denote.specs.Computed.{Computed, null}

-- how many bits a number of a kind of whole numbers has beside its sign's; the last clause is for I64 and Timestamp
abbrev pub bits_of : Kind → ℕ
bits_of kinds.I8 = 7
bits_of kinds.I16 = 15
bits_of kinds.I32 = 31
bits_of kinds.Date = 31
bits_of _ = 63

-- what is left of a number in the bits of the kind, in two's complement; the last clause is for I64 and Timestamp
abbrev pub wrapped : Kind → ℤ → ℤ
wrapped kinds.I8 n = int_wrap w8 n
wrapped kinds.I16 n = int_wrap w16 n
wrapped kinds.I32 n = int_wrap w32 n
wrapped kinds.Date n = int_wrap w32 n
wrapped _ n = int_wrap w64 n

-- at least minus 2 to the power of the bits, and less than 2 to that power
abbrev pub is_within : ℕ → ℤ → Bool
is_within bits (pos n) = nat_lt n (2 ^ bits)
is_within bits (negsuc n) = nat_lt n (2 ^ bits)

-- a number beyond its kind: a fault, the nearest number of the kind, or what is left in the kind's bits
abbrev pub beyond : Overflow → Kind → ℤ → Computed
beyond modes.Error kind n = Err faults.Overflow
beyond modes.Saturate kind n = Ok (values.Int (saturate_to_bits (bits_of kind) n))
beyond modes.Silent kind n = Ok (values.Int (wrapped kind n))

-- the exact result, in its kind
abbrev pub whole : Kind → Overflow → ℤ → Computed
whole kind mode n = if is_within (bits_of kind) n then Ok (values.Int n) else beyond mode kind n

abbrev pub is_zero : ℤ → Bool
is_zero (pos n) = n == 0
is_zero (negsuc n) = false

-- a quotient or a remainder, unless the divisor is 0
abbrev pub divided : (ℤ → ℤ → ℤ) → Kind → Overflow → Value → Value → Computed
divided operation kind mode (values.Int a) (values.Int b) = if is_zero b then Err faults.DivideByZero else whole kind mode (operation a b)
divided operation kind mode _ _ = null

-- the quotient, truncated toward zero, and the remainder, which has the dividend's sign
abbrev pub quotient : Kind → Overflow → Value → Value → Computed
quotient = divided int_div

abbrev pub modulus : Kind → Overflow → Value → Value → Computed
modulus = divided int_rem

abbrev pub negated : Kind → Overflow → Value → Computed
negated kind mode (values.Int a) = whole kind mode (neg_ℤ a)
negated kind mode _ = null

abbrev pub absolute : Kind → Overflow → Value → Computed
absolute kind mode (values.Int a) = whole kind mode (pos (unsigned_abs a))
absolute kind mode _ = null
