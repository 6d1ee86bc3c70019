-- What is known of values, and what a measure makes of it.
use Rattle.std.specs.Prelude.{ℕ, ℤ, pos, ◌+ℤ◌, int_div, List, [], ◌∷◌, Bool, not, Ok, length, ◌==◌, if◌then◌else◌}
use Rattle.std.specs.List.{filter}
use Rattle.std.specs.declared.cmp.Ordering.{Ordering}
use Rattle.std.specs.Ordering.{is_lt, is_gt}
use Rattle.sub_types.specs.declared.fault.FaultKind.TheVariants as faults
use Rattle.sub_types.specs.declared.kind.Kind.{Kind}
use Rattle.sub_types.specs.declared.kind.Kind.TheVariants as kinds
use Rattle.sub_types.specs.declared.value.Value.{Value}
use Rattle.sub_types.specs.declared.value.Value.TheVariants as values
use Rattle.plan_typed.specs.declared.expr.Func.{Func}
use Rattle.plan_typed.specs.declared.expr.Func.TheVariants as funcs
use Rattle.plan_typed.specs.declared.expr.Overflow.TheVariants as modes
use Rattle.plan_denote.specs.Computed.{Computed, null, is_null}
use Rattle.plan_denote.specs.Order.{value_cmp, number_in}
use Rattle.plan_denote.specs.Decimals.{decimal_or}
use Rattle.plan_denote.specs.Whole.{whole}

-- without nulls
abbrev pub not_null : List Value → List Value
not_null = filter (λ value. not (is_null value))

-- what is known of values: how many, their exact sum, the least and the greatest
pub record Tally : Type 0 where
  pub count : ℕ
  pub total : ℤ
  pub least : Value
  pub greatest : Value

abbrev pub total_of : List Value → ℤ
total_of [] = pos 0
total_of (value ∷ rest) = number_in value +ℤ total_of rest

-- the better of a value and another, null where there is no other
abbrev pub better_of : (Ordering → Bool) → Value → Value → Value
better_of is_better value values.Null = value
better_of is_better value other = if is_better (value_cmp other value) then other else value

-- the best of values, null for none
abbrev pub best_of : (Ordering → Bool) → List Value → Value
best_of is_better [] = values.Null
best_of is_better (value ∷ rest) = better_of is_better value (best_of is_better rest)

abbrev pub tally_of : List Value → Tally
tally_of members = record { count = length members; total = total_of members; least = best_of is_lt members; greatest = best_of is_gt members }

-- an exact number in the result's kind
abbrev pub in_kind : Kind → ℤ → Computed
in_kind (kinds.Decimal precision scale) n = decimal_or faults.Overflow (kinds.Decimal precision scale) n
in_kind kind n = whole kind modes.Error n

-- null where there are no values
abbrev pub if_any : Tally → Computed → Computed
if_any tally computed = if tally.count == 0 then null else computed

-- what a measure of a function gives; an average is truncated toward zero, and no well-typed plan reaches the last clause
abbrev pub final : Func → Kind → Tally → Computed
final funcs.Count kind tally = Ok (values.Int (pos tally.count))
final funcs.Sum kind tally = if_any tally (in_kind kind tally.total)
final funcs.Avg kind tally = if_any tally (in_kind kind (int_div tally.total (pos tally.count)))
final funcs.Min kind tally = Ok tally.least
final funcs.Max kind tally = Ok tally.greatest
final _ kind tally = null
