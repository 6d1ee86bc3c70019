-- Casts (Substrait `Cast`). The last clause of `converted` closes it: no well-typed plan reaches it.
use Rattle.std.specs.Prelude.{ℕ, ℤ, pos, neg_ℤ, ◌*ℤ◌, List, [], ◌∷◌, Bool, true, ◌&&◌, Option, Some, None, Ok, Err, ◌==◌, nat_le, if◌then◌else◌}
use Rattle.std.specs.List.{list_all}
use Rattle.std.specs.Fmt.{signed_decimal}
use Rattle.std.specs.Str.Parse.{digits_value}
use Rattle.sub_types.specs.OptionSteps.{when}
use Rattle.sub_types.specs.declared.fault.FaultKind.TheVariants as faults
use Rattle.sub_types.specs.declared.kind.Kind.{Kind}
use Rattle.sub_types.specs.declared.kind.Kind.TheVariants as kinds
use Rattle.sub_types.specs.declared.value.Value.{Value}
use Rattle.sub_types.specs.declared.value.Value.TheVariants as values
use Rattle.func_table.specs.Kinds.{is_equal, scale_of}
use Rattle.plan_denote.specs.Computed.{Computed, null}
use Rattle.plan_denote.specs.Whole.{bits_of, is_within}
use Rattle.plan_denote.specs.Decimals.{decimal_or, rescaled}

-- the microseconds of a day
abbrev pub DAY : ℤ
DAY = pos 86400000000

-- an ASCII digit
abbrev pub is_digit : ℕ → Bool
is_digit byte = nat_le 48 byte && nat_le byte 57

-- the number that one or more digits write
abbrev pub unsigned_of : List ℕ → Option ℕ
unsigned_of [] = None
unsigned_of (digit ∷ digits) = when (list_all is_digit (digit ∷ digits)) (Some (digits_value 10 (digit ∷ digits)))

-- the number that a text writes: perhaps a `-`, and then digits
abbrev pub number_of : List ℕ → Option ℤ
number_of (byte ∷ rest) =
    if byte == 45
    then elim (unsigned_of rest) [ Some n ↦ Some (neg_ℤ (pos n)) | None ↦ None ]
    else elim (unsigned_of (byte ∷ rest)) [ Some n ↦ Some (pos n) | None ↦ None ]
number_of [] = None

-- a number of a kind of whole numbers, if it fits
abbrev pub fitting : Kind → ℤ → Computed
fitting kind n = if is_within (bits_of kind) n then Ok (values.Int n) else Err faults.BadCast

-- a value of one kind as one of another
abbrev pub converted : Kind → Kind → Value → Computed
converted from to values.Null = null
converted kinds.Date kinds.Timestamp (values.Int n) = fitting kinds.Timestamp (n *ℤ DAY)
converted from (kinds.Decimal precision scale) (values.Int n) = decimal_or faults.BadCast (kinds.Decimal precision scale) (rescaled 0 scale n)
converted from kinds.Text (values.Int n) = Ok (values.Bytes (signed_decimal n))
converted from to (values.Int n) = fitting to n
converted from to (values.Dec n) = decimal_or faults.BadCast to (rescaled (scale_of from) (scale_of to) n)
converted from to (values.Bytes text) = elim (number_of text) [ Some n ↦ fitting to n | None ↦ Err faults.BadCast ]
converted from to (values.Bool _) = null

-- each kind is cast to itself
abbrev pub cast : Kind → Kind → Value → Computed
cast from to value = if is_equal from to then Ok value else converted from to value

-- a cast that fails is null where it is asked for
abbrev pub or_null : Bool → Computed → Computed
or_null true (Err _) = null
or_null _ computed = computed
