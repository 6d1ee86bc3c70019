-- What a literal is worth (Substrait `Expression.Literal`): a value of a type.
use Rattle.std.specs.Prelude.{ℕ, ◌^◌, ℤ, pos, negsuc, List, Bool, true, false, Option, Result, Ok, Err, map, ◌&&◌, ◌==◌, length, nat_le, nat_lt, unsigned_abs, if◌then◌else◌}
use Rattle.std.specs.Int.{w128, cast_signed}
use Rattle.std.specs.Option.{ok_or}
use Rattle.std.specs.Str.{is_utf8}
use Rattle.byteorder.specs.Endian.{little_number}
use Rattle.sub_types.specs.ResultSteps.{◌>>=◌, collect}
use Rattle.sub_types.specs.Value.{MAX_TEXT}
use Rattle.sub_types.specs.declared.kind.Kind.{Kind}
use Rattle.sub_types.specs.declared.kind.Kind.TheVariants as kinds
use Rattle.sub_types.specs.declared.kind.Ty.{Ty}
use Rattle.sub_types.specs.declared.value.Value.{Value}
use Rattle.sub_types.specs.declared.value.Value.TheVariants as values
use Rattle.plan_leaves.specs.declared.literal.RawLiteral.{RawLiteral}
use Rattle.plan_leaves.specs.declared.literal.RawLiteral.TheVariants as literals
use Rattle.func_table.specs.Kinds.{is_equal}
use Rattle.plan_typed.specs.declared.expr.Expr.{Expr}
use Rattle.plan_typed.specs.declared.expr.Expr.TheVariants as exprs
use Rattle.plan_verdict.specs.declared.rule.Rule.{Rule}
use Rattle.plan_verdict.specs.declared.rule.Rule.TheVariants as rules
use Rattle.plan_verdict.specs.Types.{type_in, decimal_of}

-- a whole number from minus the bound up to below it
abbrev pub is_within : ℕ → ℤ → Bool
is_within bound (pos n) = nat_lt n bound
is_within bound (negsuc n) = nat_lt n bound

-- a value of a kind, whose type is nullable where the literal's flag says so
abbrev pub constant : Kind → Bool → Value → Value × Ty
constant kind nullable value = (value, record { kind = kind; nullable = nullable })

-- the value, if it is one of its kind
abbrev pub constant_where : Bool → Kind → Bool → Value → Result (Value × Ty) Rule
constant_where test kind nullable value = if test then Ok (constant kind nullable value) else Err rules.BadLiteral

-- the whole number of 16 bytes, little-endian in two's complement
abbrev pub decimal_number : List ℕ → ℤ
decimal_number bytes = cast_signed w128 (little_number 16 bytes)

-- 16 bytes of a number with at most the precision's digits
abbrev pub is_decimal : Kind → List ℕ → Bool
is_decimal (kinds.Decimal precision scale) bytes = length bytes == 16 && nat_lt (unsigned_abs (decimal_number bytes)) (10 ^ precision)
is_decimal _ bytes = false

-- the value and type of a literal; null is nullable. A tree in memory has no number beyond its bits and no text that isn't UTF-8,
-- so only the tests of I8, I16, of lengths and of decimals can fail there
abbrev pub literal_in : RawLiteral → Result (Value × Ty) Rule
literal_in (literals.Boolean value nullable) = Ok (constant kinds.Bool nullable (values.Bool value))
literal_in (literals.I8 value nullable) = constant_where (is_within 128 value) kinds.I8 nullable (values.Int value)
literal_in (literals.I16 value nullable) = constant_where (is_within 32768 value) kinds.I16 nullable (values.Int value)
literal_in (literals.I32 value nullable) = constant_where (is_within (2 ^ 31) value) kinds.I32 nullable (values.Int value)
literal_in (literals.I64 value nullable) = constant_where (is_within (2 ^ 63) value) kinds.I64 nullable (values.Int value)
literal_in (literals.String value nullable) = constant_where (is_utf8 value && nat_le (length value) MAX_TEXT) kinds.Text nullable (values.Bytes value)
literal_in (literals.Binary value nullable) = constant_where (nat_le (length value) MAX_TEXT) kinds.Binary nullable (values.Bytes value)
literal_in (literals.Timestamp value nullable) = constant_where (is_within (2 ^ 63) value) kinds.Timestamp nullable (values.Int value)
literal_in (literals.Date value nullable) = constant_where (is_within (2 ^ 31) value) kinds.Date nullable (values.Int value)
literal_in (literals.Decimal value precision scale nullable) = do
  kind ← ok_or (decimal_of precision scale) rules.UnsupportedType
  constant_where (is_decimal kind value) kind nullable (values.Dec (decimal_number value))
literal_in (literals.Null raw nullable) = do
  ty ← type_in raw
  Ok (constant ty.kind true values.Null)
literal_in _ = Err rules.UnsupportedType

-- a literal as an expression
abbrev pub constant_in : RawLiteral → Result Expr Rule
constant_in raw = do
  (value, ty) ← literal_in raw
  Ok (exprs.Const value ty)

-- the value of a literal that must be there and of this kind
abbrev pub value_of_kind : Kind → Option RawLiteral → Result Value Rule
value_of_kind kind written = do
  raw ← ok_or written rules.MissingField
  (value, ty) ← literal_in raw
  if is_equal ty.kind kind then Ok value else Err rules.TypeMismatch

-- those of several, in order
abbrev pub values_of_kind : Kind → List (Option RawLiteral) → Result (List Value) Rule
values_of_kind kind written = collect (map (value_of_kind kind) written)
