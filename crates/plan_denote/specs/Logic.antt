-- The functions of functions_boolean.yaml and functions_comparison.yaml (is_null, is_not_null and is_not_distinct_from stand in
-- `Calls`), and what chooses among values.
use Rattle.std.specs.Prelude.{List, [], ◌∷◌, Bool, true, false, not, ◌&&◌, ◌||◌, map, Ok, if◌then◌else◌}
use Rattle.std.proofs.Math.Bool.{beq}
use Rattle.std.specs.declared.cmp.Ordering.{Ordering}
use Rattle.std.specs.Ordering.{is_eq, is_lt, is_gt}
use Rattle.sub_types.specs.declared.value.Value.{Value}
use Rattle.sub_types.specs.declared.value.Value.TheVariants as values
use Rattle.plan_denote.specs.Computed.{Computed, ◌>>=◌, truth, null, is_null, is_true}
use Rattle.plan_denote.specs.Order.{value_cmp, is_same}

-- a value is this truth value
abbrev pub is_truth : Bool → Value → Bool
is_truth test (values.Bool found) = beq found test
is_truth test _ = false

-- two values, each true, false or null: `end` where one is `end`, the other truth value where both are that, and else null
abbrev pub three_valued : Bool → Value → Value → Value
three_valued end a b =
    if is_truth end a || is_truth end b then values.Bool end
    else if is_truth (not end) a && is_truth (not end) b then values.Bool (not end)
    else values.Null

-- the arguments from left to right up to the first that is `end`, put together by the three-valued table; no arguments give the other truth value
abbrev pub ends_at : Bool → List Computed → Computed
ends_at end [] = truth (not end)
ends_at end (arg ∷ args) = do
  value ← arg
  if is_truth end value then truth end else (ends_at end args >>= (λ rest. Ok (three_valued end value rest)))

-- `and` ends at the first false, `or` at the first true
abbrev pub and_of : List Computed → Computed
and_of = ends_at false

abbrev pub or_of : List Computed → Computed
or_of = ends_at true

abbrev pub not_of : Value → Computed
not_of (values.Bool test) = truth (not test)
not_of _ = null

abbrev pub xor_of : Value → Value → Computed
xor_of (values.Bool a) (values.Bool b) = truth (not (beq a b))
xor_of _ _ = null

-- a comparison of two values, null where one is null
abbrev pub compared : (Ordering → Bool) → Value → Value → Computed
compared test a b = if is_null a || is_null b then null else truth (test (value_cmp a b))

-- whether the first is at least the second and at most the third, null where one of them is null
abbrev pub between : Value → Value → Value → Computed
between value low high = if is_null value || is_null low || is_null high then null else truth (not (is_lt (value_cmp value low)) && not (is_gt (value_cmp value high)))

-- the first value that isn't null, null where there is none
abbrev pub coalesce : List Computed → Computed
coalesce [] = null
coalesce (arg ∷ args) = arg >>= (λ value. if is_null value then coalesce args else Ok value)

-- null where the two are equal, and else the first
abbrev pub nullif : Value → Value → Computed
nullif a b = if not (is_null a) && is_same a b then null else Ok a

-- whether a value is one of the options, which are evaluated in order up to the first that equals it: `or` over the comparisons
abbrev pub one_of : Value → List Computed → Computed
one_of value options = or_of (map (λ option. option >>= (λ other. compared is_eq value other)) options)

-- the value of the first arm whose condition is true, or the else
abbrev pub first_true : List (Computed × Computed) → Computed → Computed
first_true [] other = other
first_true ((condition, value) ∷ arms) other = condition >>= (λ test. if is_true test then value else first_true arms other)

-- the value of the first arm whose literal equals the subject, or the else, which a null subject takes
abbrev pub first_equal : Value → List (Value × Computed) → Computed → Computed
first_equal subject [] other = other
first_equal subject ((literal, value) ∷ arms) other = if not (is_null subject) && is_same subject literal then value else first_equal subject arms other
