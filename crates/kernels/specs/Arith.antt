-- Arithmetic on whole numbers whose results a range bounds.
use Rattle.std.specs.Prelude.{◌≡◌, ℕ, ◌-◌, ◌^◌, ◌<◌, ◌≤◌, ℤ, List, length, slice_index_or, pos, negsuc, neg_ℤ, min, ◌+ℤ◌, ◌-ℤ◌, ◌*ℤ◌, int_div, int_rem, int_lt, Bool, true, false, ◌&&◌, nat_le, Option, Some, None, option_map, Result, Ok, Err, FitsSigned, if◌then◌else◌}
use Rattle.std.specs.Int.{Width, w128, int_wrap}
use Rattle.std.specs.Option.{SomeIff}
use mir.Val.{bits}
use Rattle.sub_types.specs.declared.fault.FaultKind.{FaultKind}
use Rattle.sub_types.specs.declared.fault.FaultKind.TheVariants as faults
use Rattle.sub_types.specs.declared.kind.Kind.{Kind}
use Rattle.plan_typed.specs.declared.expr.Func.{Func}
use Rattle.plan_typed.specs.declared.expr.Func.TheVariants as funcs
use Rattle.plan_typed.specs.declared.expr.Overflow.{Overflow}
use Rattle.plan_typed.specs.declared.expr.Overflow.TheVariants as modes
use Rattle.plan_denote.specs.Whole.{is_zero, bits_of, wrapped}
use Rattle.plan_denote.specs.Decimals.{MAX_DIGITS}
use Rattle.kernels.specs.declared.op.ArithOp.{ArithOp}
use Rattle.kernels.specs.declared.op.ArithOp.TheVariants.{Add, Subtract, Multiply, Divide, Modulus}

-- the function that an operation is
abbrev pub func_of : ArithOp → Func
func_of Add = funcs.Add
func_of Subtract = funcs.Subtract
func_of Multiply = funcs.Multiply
func_of Divide = funcs.Divide
func_of Modulus = funcs.Modulus

-- a kind of whole numbers of this width, and its least and greatest number
pub record IsWholeKind (kind : Kind) (w : Width) (least greatest : ℤ) : Type 0 where
  pub narrow : bits w ≤ 64
  pub wraps : (n : ℤ) → wrapped kind n ≡ int_wrap w n
  pub is_least : least ≡ negsuc (2 ^ bits_of kind - 1)
  pub is_greatest : greatest ≡ pos (2 ^ bits_of kind - 1)

-- decimals of so many digits, and their least and greatest number
pub record IsDecimalKind (precision : ℕ) (w : Width) (least greatest : ℤ) : Type 0 where
  pub wide : w ≡ w128
  pub is_least : least ≡ neg_ℤ (pos (10 ^ min precision MAX_DIGITS - 1))
  pub is_greatest : greatest ≡ pos (10 ^ min precision MAX_DIGITS - 1)

abbrev pub divides : ArithOp → Bool
divides Divide = true
divides Modulus = true
divides _ = false

-- the exact result
abbrev pub exact : ArithOp → ℤ → ℤ → ℤ
exact Add = ◌+ℤ◌
exact Subtract = ◌-ℤ◌
exact Multiply = ◌*ℤ◌
exact Divide = int_div
exact Modulus = int_rem

-- what stands for a number beyond this end of the range
abbrev pub beyond : Overflow → Width → ℤ → ℤ → Result ℤ FaultKind
beyond modes.Error w end n = Err faults.Overflow
beyond modes.Saturate w end n = if nat_le (bits w) 64 then Ok end else Err faults.Overflow
beyond modes.Silent w end n = if nat_le (bits w) 64 then Ok (int_wrap w n) else Err faults.Overflow

abbrev pub settled : Overflow → Width → ℤ → ℤ → ℤ → Result ℤ FaultKind
settled mode w least greatest n = if int_lt n least then beyond mode w least n else if int_lt greatest n then beyond mode w greatest n else Ok n

-- the result of two numbers, and of two that may be missing
abbrev pub computed : ArithOp → Overflow → Width → ℤ → ℤ → ℤ → ℤ → Result ℤ FaultKind
computed op mode w least greatest x y = if divides op && is_zero y then Err faults.DivideByZero else settled mode w least greatest (exact op x y)

abbrev pub some_of : Result ℤ FaultKind → Result (Option ℤ) FaultKind
some_of (Ok n) = Ok (Some n)
some_of (Err kind) = Err kind

abbrev pub row : ArithOp → Overflow → Width → ℤ → ℤ → Option ℤ → Option ℤ → Result (Option ℤ) FaultKind
row op mode w least greatest (Some x) (Some y) = some_of (computed op mode w least greatest x y)
row op mode w least greatest _ _ = Ok None

-- the numbers of results
abbrev pub number_of : {T : Type 0} → (T → ℤ) → Result T FaultKind → Result ℤ FaultKind
number_of number (Ok x) = Ok (number x)
number_of number (Err kind) = Err kind

abbrev pub rows_number : {T : Type 0} → (T → ℤ) → Result (Option T) FaultKind → Result (Option ℤ) FaultKind
rows_number number (Ok x) = Ok (option_map number x)
rows_number number (Err kind) = Err kind

-- the exact result in 128 bits, missing where they don't hold it, and a fault where the divisor is 0
abbrev pub IsExact : Result (Option ℤ) FaultKind → ArithOp → ℤ → ℤ → Type 0
IsExact (Ok n) op x y = ((divides op && is_zero y) ≡ false) × SomeIff n (FitsSigned w128 (exact op x y)) (exact op x y)
IsExact (Err kind) op x y = ((divides op && is_zero y) ≡ true) × (kind ≡ faults.DivideByZero)

-- an exact result of two numbers
pub record IsCombined (op : ArithOp) (x y result : ℤ) : Type 0 where
  pub divisible : (divides op && is_zero y) ≡ false
  pub is : result ≡ exact op x y

-- a result of two numbers within the range
pub record IsResult (op : ArithOp) (least greatest x y result : ℤ) : Type 0 where
  pub divisible : (divides op && is_zero y) ≡ false
  pub is : result ≡ exact op x y
  pub low : int_lt result least ≡ false
  pub high : int_lt greatest result ≡ false

-- the results at the first so many places
pub record AreResults {T : Type 0} (op : ArithOp) (number : T → ℤ) (filler least greatest : T) (a b values : List T) (count : ℕ) : Type 0 where
  pub long : length values ≡ length a
  pub results : (k : ℕ) → k < count → IsResult op (number least) (number greatest) (number (slice_index_or a k filler)) (number (slice_index_or b k filler)) (number (slice_index_or values k filler))

-- the results at those of all places that are valid
pub record AreValid {T : Type 0} (op : ArithOp) (number : T → ℤ) (filler least greatest : T) (a b : List T) (valid : List Bool) (values : List T) : Type 0 where
  pub long : length values ≡ length a
  pub results : (k : ℕ) → k < length a → slice_index_or valid k false ≡ true → IsResult op (number least) (number greatest) (number (slice_index_or a k filler)) (number (slice_index_or b k filler)) (number (slice_index_or values k filler))
