-- Numbers of columns as values, and what is asked of them.
use Rattle.std.specs.Prelude.{ℤ, List, Bool, Option, Some, None, map, option_map}
use Rattle.std.specs.declared.cmp.Ordering.{Ordering}
use Rattle.std.specs.Ordering.{is_eq, is_ne, is_lt, is_le, is_gt, is_ge, int_cmp}
use Rattle.sub_types.specs.declared.value.Value.{Value}
use Rattle.sub_types.specs.Nullable.{int_value, dec_value}
use Rattle.kernels.specs.declared.op.CompareOp.{CompareOp}
use Rattle.kernels.specs.declared.op.CompareOp.TheVariants.{Eq, Ne, Lt, Le, Gt, Ge}

-- the value of a number that may be missing: a whole number, and a decimal's number
abbrev pub int_of : {T : Type 0} → (T → ℤ) → Option T → Value
int_of number value = int_value (option_map number value)

abbrev pub dec_of : {T : Type 0} → (T → ℤ) → Option T → Value
dec_of number value = dec_value (option_map number value)

abbrev pub ints : {T : Type 0} → (T → ℤ) → List (Option T) → List Value
ints number = map (int_of number)

abbrev pub decs : {T : Type 0} → (T → ℤ) → List (Option T) → List Value
decs number = map (dec_of number)

-- what a comparison asks of the order of two values
abbrev pub test_of : CompareOp → Ordering → Bool
test_of Eq = is_eq
test_of Ne = is_ne
test_of Lt = is_lt
test_of Le = is_le
test_of Gt = is_gt
test_of Ge = is_ge

-- whether it holds of two numbers, and of two that may be missing
abbrev pub holds : {T : Type 0} → (T → ℤ) → CompareOp → T → T → Bool
holds number op x y = test_of op (int_cmp (number x) (number y))

abbrev pub compared : {T : Type 0} → (T → ℤ) → CompareOp → Option T → Option T → Option Bool
compared number op (Some x) (Some y) = Some (holds number op x y)
compared number op _ _ = None

-- the comparison that holds of two values where this one holds of them the other way round
abbrev pub turned : CompareOp → CompareOp
turned Eq = Eq
turned Ne = Ne
turned Lt = Gt
turned Le = Ge
turned Gt = Lt
turned Ge = Le
