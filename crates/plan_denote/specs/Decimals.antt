-- The functions of functions_arithmetic_decimal.yaml, and those that stand in both files of arithmetic. A decimal is a whole number
-- times 10 to minus its scale.
use Rattle.std.specs.Prelude.{ℕ, ◌^◌, ◌-◌, ℤ, pos, ◌+ℤ◌, ◌-ℤ◌, ◌*ℤ◌, List, [], ◌∷◌, Ok, Err, nat_lt, min, unsigned_abs, if◌then◌else◌}
use Rattle.sub_types.specs.declared.fault.FaultKind.{FaultKind}
use Rattle.sub_types.specs.declared.fault.FaultKind.TheVariants as faults
use Rattle.sub_types.specs.declared.kind.Kind.{Kind}
use Rattle.sub_types.specs.declared.kind.Kind.TheVariants as kinds
use Rattle.sub_types.specs.declared.value.Value.{Value}
use Rattle.sub_types.specs.declared.value.Value.TheVariants as values
use Rattle.func_table.specs.Kinds.{scale_of}
use Rattle.plan_typed.specs.declared.expr.Overflow.{Overflow}
use Rattle.plan_denote.specs.Computed.{Computed, null}
use Rattle.plan_denote.specs.Whole.{whole}

-- the most digits of a decimal
abbrev pub MAX_DIGITS : ℕ
MAX_DIGITS = 38

-- the number of a decimal, of at most the precision's digits (which are 38 at most), or else this fault; no well-typed plan
-- reaches the last clause
abbrev pub decimal_or : FaultKind → Kind → ℤ → Computed
decimal_or fault (kinds.Decimal precision scale) n = if nat_lt (unsigned_abs n) (10 ^ min precision MAX_DIGITS) then Ok (values.Dec n) else Err fault
decimal_or fault _ n = null

-- the number at a scale that is no smaller
abbrev pub rescaled : ℕ → ℕ → ℤ → ℤ
rescaled from to n = n *ℤ pos (10 ^ (to - from))

-- a sum or a difference of arguments of the given kinds: whole numbers as they are, decimals brought to the result's scale first
abbrev pub combined : (ℤ → ℤ → ℤ) → Kind → Overflow → List Kind → Value → Value → Computed
combined operation kind mode given (values.Int a) (values.Int b) = whole kind mode (operation a b)
combined operation kind mode (first ∷ second ∷ []) (values.Dec a) (values.Dec b) =
    decimal_or faults.Overflow kind (operation (rescaled (scale_of first) (scale_of kind) a) (rescaled (scale_of second) (scale_of kind) b))
combined operation kind mode given _ _ = null

abbrev pub added : Kind → Overflow → List Kind → Value → Value → Computed
added = combined ◌+ℤ◌

abbrev pub subtracted : Kind → Overflow → List Kind → Value → Value → Computed
subtracted = combined ◌-ℤ◌

-- a product; that of decimals has the sum of their scales
abbrev pub product : Kind → Overflow → Value → Value → Computed
product kind mode (values.Int a) (values.Int b) = whole kind mode (a *ℤ b)
product kind mode (values.Dec a) (values.Dec b) = decimal_or faults.Overflow kind (a *ℤ b)
product kind mode _ _ = null
