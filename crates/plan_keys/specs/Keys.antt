-- The key of a checked expression: the expression written out as whole numbers, from the outside to the inside.
use Rattle.std.specs.Prelude.{ℕ, ◌+◌, ◌*◌, ◌^◌, ℤ, pos, List, [], ◌∷◌, ◌++◌, Bool, true, false, cond, nat_lt, map, length}
use Rattle.std.specs.List.{flat_map, list_all}
use Rattle.sub_types.specs.declared.kind.Kind.{Kind}
use Rattle.sub_types.specs.declared.kind.Kind.TheVariants as kinds
use Rattle.sub_types.specs.declared.kind.Ty.{Ty}
use Rattle.sub_types.specs.declared.value.Value.{Value}
use Rattle.sub_types.specs.declared.value.Value.TheVariants as values
use Rattle.plan_typed.specs.declared.expr.Expr.{Expr, Expr-F, fold-Expr}
use Rattle.plan_typed.specs.declared.expr.Func.{Func}
use Rattle.plan_typed.specs.declared.expr.Overflow.{Overflow}
use Rattle.plan_verdict.specs.Same.{func_number, mode_number}

abbrev pub truth_number : Bool → ℤ
truth_number false = pos 0
truth_number true = pos 1

-- a kind's number, and a decimal's precision and scale
abbrev pub kind_key : Kind → List ℤ
kind_key kinds.Bool = pos 0 ∷ []
kind_key kinds.I8 = pos 1 ∷ []
kind_key kinds.I16 = pos 2 ∷ []
kind_key kinds.I32 = pos 3 ∷ []
kind_key kinds.I64 = pos 4 ∷ []
kind_key kinds.Text = pos 5 ∷ []
kind_key kinds.Binary = pos 6 ∷ []
kind_key kinds.Date = pos 7 ∷ []
kind_key kinds.Timestamp = pos 8 ∷ []
kind_key (kinds.Decimal precision scale) = pos 9 ∷ pos precision ∷ pos scale ∷ []

abbrev pub ty_key : Ty → List ℤ
ty_key ty = truth_number ty.nullable ∷ kind_key ty.kind

abbrev pub is_byte : ℕ → Bool
is_byte number = nat_lt number 256

-- bytes as digits, fourteen in each number: behind the digits of a number that has so many that it is below the limit; and a
-- last 0, so that the digests of texts that differ at the end lie apart
unfoldable pub packed : ℕ → ℕ → List ℕ → List ℤ
packed limit number [] = pos number ∷ pos 0 ∷ []
packed limit number (byte ∷ bytes) = cond (nat_lt limit (2 ^ 112)) (packed (limit * 256) (number * 256 + byte) bytes) (pos number ∷ packed 256 byte bytes)

-- bytes, behind their count; numbers that are no bytes, which no text has, each as it is
abbrev pub bytes_key : List ℕ → List ℤ
bytes_key bytes = cond (list_all is_byte bytes) (pos 4 ∷ pos (length bytes) ∷ packed 1 0 bytes) (pos 5 ∷ pos (length bytes) ∷ map pos bytes)

abbrev pub value_key : Value → List ℤ
value_key values.Null = pos 0 ∷ []
value_key (values.Bool truth) = pos 1 ∷ truth_number truth ∷ []
value_key (values.Int number) = pos 2 ∷ number ∷ []
value_key (values.Dec number) = pos 3 ∷ number ∷ []
value_key (values.Bytes bytes) = bytes_key bytes

-- the keys of some things, behind their count
abbrev pub list_key : {X : Type 0} → (X → List ℤ) → List X → List ℤ
list_key key things = pos (length things) ∷ flat_map key things

-- a call's function and its mode
abbrev pub call_key : Func → Overflow → List ℤ
call_key func mode = pos (func_number func) ∷ pos (mode_number mode) ∷ []

-- an arm by the keys of its condition and its value
abbrev pub arm_key : List ℤ × List ℤ → List ℤ
arm_key arm = arm.0 ++ arm.1

-- an arm of a switch by its value and the key of its result
abbrev pub choice_key : Value × List ℤ → List ℤ
choice_key choice = value_key choice.0 ++ choice.1

-- one level of an expression, by the keys of what is inside: its variant's number, its type, and the rest
abbrev pub level_key : Expr-F (List ℤ) → List ℤ
level_key (Expr-F.Const value ty) = pos 0 ∷ ty_key ty ++ value_key value
level_key (Expr-F.Column index ty) = pos 1 ∷ ty_key ty ++ pos index ∷ []
level_key (Expr-F.Call func mode args ty) = pos 2 ∷ ty_key ty ++ call_key func mode ++ list_key (λ arg. arg) args
level_key (Expr-F.If arms otherwise ty) = pos 3 ∷ ty_key ty ++ list_key arm_key arms ++ otherwise
level_key (Expr-F.Switch subject arms otherwise ty) = pos 4 ∷ ty_key ty ++ subject ++ list_key choice_key arms ++ otherwise
level_key (Expr-F.OneOf value options ty) = pos 5 ∷ ty_key ty ++ value ++ list_key (λ option. option) options
level_key (Expr-F.Cast input null_on_fail ty) = pos 6 ∷ ty_key ty ++ truth_number null_on_fail ∷ input

unfoldable pub expr_key : Expr → List ℤ
expr_key = fold-Expr (List ℤ) level_key
