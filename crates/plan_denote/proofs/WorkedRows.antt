-- Worked rows: what small expressions are worth, by computation.
use Rattle.std.proofs.Common.{◌≡◌, ℕ, ℤ, pos, negsuc, List, [], ◌∷◌, Bool, true, false, Ok, Err, refl}
use Rattle.sub_types.specs.declared.fault.FaultKind.TheVariants as faults
use Rattle.sub_types.specs.declared.kind.Kind.{Kind}
use Rattle.sub_types.specs.declared.kind.Kind.TheVariants as kinds
use Rattle.sub_types.specs.declared.kind.Ty.{Ty}
use Rattle.sub_types.specs.declared.value.Value.{Value}
use Rattle.sub_types.specs.declared.value.Value.TheVariants as values
use Rattle.plan_typed.specs.declared.expr.Expr.{Expr-F}
use Rattle.plan_typed.specs.declared.expr.Func.{Func}
use Rattle.plan_typed.specs.declared.expr.Func.TheVariants as funcs
use Rattle.plan_typed.specs.declared.expr.Overflow.{Overflow}
use Rattle.plan_typed.specs.declared.expr.Overflow.TheVariants as modes
use Rattle.plan_denote.specs.Computed.{Computed}
use Rattle.plan_denote.specs.Eval.{Meaning, meaning}
use Rattle.plan_denote.specs.Texts.{is_like, contains, ends, begins}

abbrev ty : Kind → Ty
ty kind = record { kind = kind; nullable = true }

abbrev lit : Kind → Value → Meaning
lit kind value = meaning (Expr-F.Const value (ty kind))

abbrev int : ℤ → Meaning
int n = lit kinds.I32 (values.Int n)

abbrev tiny : ℤ → Meaning
tiny n = lit kinds.I8 (values.Int n)

abbrev bool : Bool → Meaning
bool b = lit kinds.Bool (values.Bool b)

abbrev no : Kind → Meaning
no kind = lit kind values.Null

abbrev text : List ℕ → Meaning
text bytes = lit kinds.Text (values.Bytes bytes)

abbrev dec : ℕ → ℕ → ℤ → Meaning
dec precision scale n = lit (kinds.Decimal precision scale) (values.Dec n)

abbrev call : Func → Kind → List Meaning → Meaning
call func kind args = meaning (Expr-F.Call func modes.Error args (ty kind))

abbrev mode : Overflow → Func → List Meaning → Meaning
mode overflow func args = meaning (Expr-F.Call func overflow args (ty kinds.I8))

abbrev cast : Kind → Meaning → Meaning
cast kind input = meaning (Expr-F.Cast input false (ty kind))

abbrev worth : Meaning → Computed
worth expr = expr.at []

abbrev yes : Computed
yes = Ok (values.Bool true)

abbrev no_ : Computed
no_ = Ok (values.Bool false)

abbrev unknown : Computed
unknown = Ok values.Null

abbrev number : ℤ → Computed
number n = Ok (values.Int n)

abbrev decimal : ℤ → Computed
decimal n = Ok (values.Dec n)

abbrev bytes : List ℕ → Computed
bytes bs = Ok (values.Bytes bs)

abbrev by_zero : Meaning
by_zero = call funcs.Equal kinds.Bool (call funcs.Divide kinds.I32 (int (pos 1) ∷ int (pos 0) ∷ []) ∷ int (pos 1) ∷ [])

and_none : worth (call funcs.And kinds.Bool []) ≡ yes
and_none = refl

or_none : worth (call funcs.Or kinds.Bool []) ≡ no_
or_none = refl

and_hides_fault : worth (call funcs.And kinds.Bool (bool false ∷ by_zero ∷ [])) ≡ no_
and_hides_fault = refl

and_shows_fault : worth (call funcs.And kinds.Bool (no kinds.Bool ∷ by_zero ∷ bool false ∷ [])) ≡ Err faults.DivideByZero
and_shows_fault = refl

and_null_false : worth (call funcs.And kinds.Bool (no kinds.Bool ∷ bool true ∷ bool false ∷ [])) ≡ no_
and_null_false = refl

and_null : worth (call funcs.And kinds.Bool (bool true ∷ no kinds.Bool ∷ [])) ≡ unknown
and_null = refl

or_true : worth (call funcs.Or kinds.Bool (no kinds.Bool ∷ bool true ∷ by_zero ∷ [])) ≡ yes
or_true = refl

or_null : worth (call funcs.Or kinds.Bool (bool false ∷ no kinds.Bool ∷ [])) ≡ unknown
or_null = refl

not_false : worth (call funcs.Not kinds.Bool (bool false ∷ [])) ≡ yes
not_false = refl

xor_rows : worth (call funcs.Xor kinds.Bool (bool false ∷ bool true ∷ [])) ≡ yes
xor_rows = refl

xor_null : worth (call funcs.Xor kinds.Bool (bool false ∷ no kinds.Bool ∷ [])) ≡ unknown
xor_null = refl

null_argument_hides_no_fault : worth (call funcs.Equal kinds.Bool (no kinds.I32 ∷ call funcs.Divide kinds.I32 (int (pos 1) ∷ int (pos 0) ∷ []) ∷ [])) ≡ Err faults.DivideByZero
null_argument_hides_no_fault = refl

equal_null : worth (call funcs.Equal kinds.Bool (no kinds.I32 ∷ no kinds.I32 ∷ [])) ≡ unknown
equal_null = refl

same_null : worth (call funcs.IsNotDistinctFrom kinds.Bool (no kinds.I32 ∷ no kinds.I32 ∷ [])) ≡ yes
same_null = refl

lt_false_true : worth (call funcs.Lt kinds.Bool (bool false ∷ bool true ∷ [])) ≡ yes
lt_false_true = refl

lt_negative : worth (call funcs.Lt kinds.Bool (int (negsuc 4) ∷ int (negsuc 2) ∷ [])) ≡ yes
lt_negative = refl

gte_texts : worth (call funcs.Gte kinds.Bool (text (97 ∷ 98 ∷ []) ∷ text (97 ∷ []) ∷ [])) ≡ yes
gte_texts = refl

between_edges : worth (call funcs.Between kinds.Bool (int (pos 3) ∷ int (pos 3) ∷ int (pos 3) ∷ [])) ≡ yes
between_edges = refl

between_null : worth (call funcs.Between kinds.Bool (int (pos 3) ∷ int (pos 4) ∷ no kinds.I32 ∷ [])) ≡ unknown
between_null = refl

coalesce_second : worth (call funcs.Coalesce kinds.I32 (no kinds.I32 ∷ int (pos 7) ∷ call funcs.Divide kinds.I32 (int (pos 1) ∷ int (pos 0) ∷ []) ∷ [])) ≡ number (pos 7)
coalesce_second = refl

nullif_equal : worth (call funcs.Nullif kinds.I32 (int (pos 7) ∷ int (pos 7) ∷ [])) ≡ unknown
nullif_equal = refl

nullif_null : worth (call funcs.Nullif kinds.I32 (int (pos 7) ∷ no kinds.I32 ∷ [])) ≡ number (pos 7)
nullif_null = refl

add_beyond : worth (mode modes.Error funcs.Add (tiny (pos 127) ∷ tiny (pos 1) ∷ [])) ≡ Err faults.Overflow
add_beyond = refl

add_nearest : worth (mode modes.Saturate funcs.Add (tiny (pos 127) ∷ tiny (pos 1) ∷ [])) ≡ number (pos 127)
add_nearest = refl

subtract_nearest : worth (mode modes.Saturate funcs.Subtract (tiny (negsuc 127) ∷ tiny (pos 1) ∷ [])) ≡ number (negsuc 127)
subtract_nearest = refl

divide_toward_zero : worth (call funcs.Divide kinds.I32 (int (negsuc 6) ∷ int (pos 2) ∷ [])) ≡ number (negsuc 2)
divide_toward_zero = refl

divide_least : worth (mode modes.Error funcs.Divide (tiny (negsuc 127) ∷ tiny (negsuc 0) ∷ [])) ≡ Err faults.Overflow
divide_least = refl

modulus_least : worth (mode modes.Error funcs.Modulus (tiny (negsuc 127) ∷ tiny (negsuc 0) ∷ [])) ≡ number (pos 0)
modulus_least = refl

modulus_sign : worth (call funcs.Modulus kinds.I32 (int (negsuc 6) ∷ int (pos 4) ∷ [])) ≡ number (negsuc 2)
modulus_sign = refl

modulus_by_zero : worth (call funcs.Modulus kinds.I32 (int (pos 6) ∷ int (pos 0) ∷ [])) ≡ Err faults.DivideByZero
modulus_by_zero = refl

divide_null_by_zero : worth (call funcs.Divide kinds.I32 (no kinds.I32 ∷ int (pos 0) ∷ [])) ≡ unknown
divide_null_by_zero = refl

abs_least : worth (mode modes.Saturate funcs.Abs (tiny (negsuc 127) ∷ [])) ≡ number (pos 127)
abs_least = refl

decimal_sum : worth (call funcs.Add (kinds.Decimal 6 2) (dec 5 2 (pos 12345) ∷ dec 3 1 (pos 999) ∷ [])) ≡ decimal (pos 22335)
decimal_sum = refl

decimal_sum_beyond : worth (call funcs.Add (kinds.Decimal 4 2) (dec 5 2 (pos 12345) ∷ dec 3 1 (pos 999) ∷ [])) ≡ Err faults.Overflow
decimal_sum_beyond = refl

decimal_product : worth (call funcs.Multiply (kinds.Decimal 6 3) (dec 5 2 (negsuc 149) ∷ dec 3 1 (pos 20) ∷ [])) ≡ decimal (negsuc 2999)
decimal_product = refl

concat_null : worth (call funcs.Concat kinds.Text (text (97 ∷ []) ∷ no kinds.Text ∷ [])) ≡ unknown
concat_null = refl

concat_two : worth (call funcs.Concat kinds.Text (text (97 ∷ []) ∷ text (98 ∷ []) ∷ [])) ≡ bytes (97 ∷ 98 ∷ [])
concat_two = refl

cast_text_minus : worth (cast kinds.I32 (text (45 ∷ []))) ≡ Err faults.BadCast
cast_text_minus = refl

cast_text_zeros : worth (cast kinds.I32 (text (48 ∷ 48 ∷ 55 ∷ []))) ≡ number (pos 7)
cast_text_zeros = refl

cast_text_minus_zero : worth (cast kinds.I32 (text (45 ∷ 48 ∷ []))) ≡ number (pos 0)
cast_text_minus_zero = refl

cast_text_plus : worth (cast kinds.I32 (text (43 ∷ 48 ∷ []))) ≡ Err faults.BadCast
cast_text_plus = refl

cast_small : worth (cast kinds.I8 (int (pos 128))) ≡ Err faults.BadCast
cast_small = refl

cast_small_null : worth (meaning (Expr-F.Cast (int (pos 128)) true (ty kinds.I8))) ≡ unknown
cast_small_null = refl

cast_decimal : worth (cast (kinds.Decimal 5 2) (int (negsuc 6))) ≡ decimal (negsuc 699)
cast_decimal = refl

cast_decimal_beyond : worth (cast (kinds.Decimal 2 2) (int (pos 1))) ≡ Err faults.BadCast
cast_decimal_beyond = refl

cast_date : worth (cast kinds.Timestamp (lit kinds.Date (values.Int (negsuc 0)))) ≡ number (negsuc 86399999999)
cast_date = refl

one_of_none : worth (meaning (Expr-F.OneOf (no kinds.I32) [] (ty kinds.Bool))) ≡ no_
one_of_none = refl

one_of_null : worth (meaning (Expr-F.OneOf (int (pos 1)) (no kinds.I32 ∷ int (pos 2) ∷ []) (ty kinds.Bool))) ≡ unknown
one_of_null = refl

one_of_found : worth (meaning (Expr-F.OneOf (int (pos 2)) (no kinds.I32 ∷ int (pos 2) ∷ call funcs.Divide kinds.I32 (int (pos 1) ∷ int (pos 0) ∷ []) ∷ []) (ty kinds.Bool))) ≡ yes
one_of_found = refl

if_null : worth (meaning (Expr-F.If ((no kinds.Bool, int (pos 1)) ∷ []) (int (pos 2)) (ty kinds.I32))) ≡ number (pos 2)
if_null = refl

switch_null : worth (meaning (Expr-F.Switch (no kinds.I32) ((values.Null, int (pos 1)) ∷ []) (int (pos 2)) (ty kinds.I32))) ≡ number (pos 2)
switch_null = refl

switch_second : worth (meaning (Expr-F.Switch (int (pos 5)) ((values.Null, by_zero) ∷ (values.Int (pos 5), int (pos 1)) ∷ []) (int (pos 2)) (ty kinds.I32))) ≡ number (pos 1)
switch_second = refl

a_column : (meaning (Expr-F.Column 1 (ty kinds.I32))).at (values.Null ∷ values.Int (pos 5) ∷ []) ≡ number (pos 5)
a_column = refl

like_any : is_like (97 ∷ 95 ∷ 37 ∷ []) (97 ∷ 228 ∷ 98 ∷ []) ≡ true
like_any = refl

like_short : is_like (95 ∷ []) (97 ∷ 98 ∷ []) ≡ false
like_short = refl

like_twice : is_like (37 ∷ 97 ∷ 37 ∷ 98 ∷ []) (97 ∷ 97 ∷ 99 ∷ 98 ∷ []) ≡ true
like_twice = refl

like_empty : is_like (37 ∷ []) [] ≡ true
like_empty = refl

contains_empty : contains [] [] ≡ true
contains_empty = refl

ends_longer : ends (98 ∷ []) (97 ∷ 98 ∷ []) ≡ false
ends_longer = refl

ends_short : ends (97 ∷ 98 ∷ []) (98 ∷ []) ≡ true
ends_short = refl

begins_short : begins (97 ∷ 98 ∷ []) (97 ∷ []) ≡ true
begins_short = refl
