-- The value of a literal fits its type.
use Rattle.std.proofs.Common.{◌≡◌, ℕ, ◌^◌, ℤ, pos, negsuc, List, Bool, true, Option, Result, Ok, Err, refl, subst, arith}
use Rattle.std.specs.Prelude.{◌&&◌, ◌==◌, nat_le, nat_lt, length, FitsSigned, unsigned_abs}
use Rattle.std.specs.Int.{w8, w16, w32, w64}
use Rattle.std.specs.Option.{ok_or}
use Rattle.std.specs.Str.{is_utf8}
use Rattle.std.proofs.lemmas.Bool.{and_parts}
use Rattle.std.proofs.lemmas.Bool.Decides.{nat_tests}
use Rattle.std.proofs.lemmas.Int.{ints}
use Rattle.std.proofs.lemmas.Str.{IsUtf8-from_is_utf8}
use Rattle.sub_types.specs.Kind.{IsKind}
use Rattle.sub_types.specs.Value.{MAX_TEXT, InKind, FitsTy}
use Rattle.sub_types.specs.declared.kind.Kind.{Kind}
use Rattle.sub_types.specs.declared.kind.Kind.TheVariants as kinds
use Rattle.sub_types.specs.declared.kind.Ty.{Ty}
use Rattle.sub_types.specs.declared.value.Value.{Value}
use Rattle.sub_types.specs.declared.value.Value.TheVariants as values
use Rattle.plan_leaves.specs.declared.literal.RawLiteral.{RawLiteral}
use Rattle.plan_leaves.specs.declared.literal.RawLiteral.TheVariants as literals
use Rattle.func_table.proofs.KindLaws.{equal_kinds}
use Rattle.func_table.specs.Kinds.{is_equal}
use Rattle.well_typed.specs.ExprTyped.{IsOfKind}
use Rattle.plan_verdict.specs.declared.rule.Rule.{Rule}
use Rattle.plan_verdict.specs.declared.rule.Rule.TheVariants as rules
use Rattle.plan_verdict.specs.Literals.{is_within, constant, constant_where, decimal_number, is_decimal, literal_in, value_of_kind, values_of_kind}
use Rattle.plan_verdict.specs.Types.{type_in, decimal_of}
use Rattle.plan_verdict.proofs.CallLaws.{decimal_valid, type_valid}
use Rattle.plan_verdict.proofs.Sound.{Given, given_then, given_ok_or, given_if, given_collect, AllOf}

abbrev Fits : Value × Ty → Type 0
Fits found = FitsTy found.1 found.0

within8 : (n : ℤ) → is_within 128 n ≡ true → FitsSigned w8 n
within8 (pos n) h = grind (arith, nat_tests, ints)
within8 (negsuc n) h = grind (arith, nat_tests, ints)

within16 : (n : ℤ) → is_within 32768 n ≡ true → FitsSigned w16 n
within16 (pos n) h = grind (arith, nat_tests, ints)
within16 (negsuc n) h = grind (arith, nat_tests, ints)

within32 : (n : ℤ) → is_within (2 ^ 31) n ≡ true → FitsSigned w32 n
within32 (pos n) h = grind (arith, nat_tests, ints)
within32 (negsuc n) h = grind (arith, nat_tests, ints)

within64 : (n : ℤ) → is_within (2 ^ 63) n ≡ true → FitsSigned w64 n
within64 (pos n) h = grind (arith, nat_tests, ints)
within64 (negsuc n) h = grind (arith, nat_tests, ints)

int_fits : (kind : Kind) (nullable : Bool) (n : ℤ) → InKind kind (values.Int n) → Fits (constant kind nullable (values.Int n))
int_fits kind nullable n h = record { in_kind = h; short = tt; allowed = λ e. cc }

bytes_fits : (kind : Kind) (nullable : Bool) (bytes : List ℕ) → InKind kind (values.Bytes bytes) → nat_le (length bytes) MAX_TEXT ≡ true → Fits (constant kind nullable (values.Bytes bytes))
bytes_fits kind nullable bytes h test = record { in_kind = h; short = grind (arith, nat_tests); allowed = λ e. cc }

decimal_in_kind : (kind : Kind) (bytes : List ℕ) → is_decimal kind bytes ≡ true → InKind kind (values.Dec (decimal_number bytes))
decimal_in_kind (kinds.Decimal precision scale) bytes test =
    let parts = and_parts (length bytes == 16) (nat_lt (unsigned_abs (decimal_number bytes)) (10 ^ precision)) test in
    grind (arith, nat_tests)
decimal_in_kind kind bytes test = cc

where_fits : (test : Bool) (kind : Kind) (nullable : Bool) (value : Value) → (test ≡ true → Fits (constant kind nullable value)) → Given Fits (constant_where test kind nullable value)
where_fits test kind nullable value k = given_if Fits test (constant kind nullable value) rules.BadLiteral k

anything : {A : Type 0} (r : Result A Rule) → Given (λ _. Unit {0}) r
anything (Ok x) = tt
anything (Err rule) = tt

pub literal_fits : (raw : RawLiteral) → Given (λ (found : Value × Ty). FitsTy found.1 found.0) (literal_in raw)
literal_fits (literals.Boolean value nullable) = record { in_kind = tt; short = tt; allowed = λ e. cc }
literal_fits (literals.I8 value nullable) = where_fits (is_within 128 value) kinds.I8 nullable (values.Int value) (λ t. int_fits kinds.I8 nullable value (within8 value t))
literal_fits (literals.I16 value nullable) = where_fits (is_within 32768 value) kinds.I16 nullable (values.Int value) (λ t. int_fits kinds.I16 nullable value (within16 value t))
literal_fits (literals.I32 value nullable) = where_fits (is_within (2 ^ 31) value) kinds.I32 nullable (values.Int value) (λ t. int_fits kinds.I32 nullable value (within32 value t))
literal_fits (literals.I64 value nullable) = where_fits (is_within (2 ^ 63) value) kinds.I64 nullable (values.Int value) (λ t. int_fits kinds.I64 nullable value (within64 value t))
literal_fits (literals.String value nullable) = where_fits (is_utf8 value && nat_le (length value) MAX_TEXT) kinds.Text nullable (values.Bytes value) (λ t.
    let parts = and_parts (is_utf8 value) (nat_le (length value) MAX_TEXT) t in bytes_fits kinds.Text nullable value (IsUtf8-from_is_utf8 value parts.0) parts.1)
literal_fits (literals.Binary value nullable) = where_fits (nat_le (length value) MAX_TEXT) kinds.Binary nullable (values.Bytes value) (λ t. bytes_fits kinds.Binary nullable value tt t)
literal_fits (literals.Timestamp value nullable) = where_fits (is_within (2 ^ 63) value) kinds.Timestamp nullable (values.Int value) (λ t. int_fits kinds.Timestamp nullable value (within64 value t))
literal_fits (literals.Date value nullable) = where_fits (is_within (2 ^ 31) value) kinds.Date nullable (values.Int value) (λ t. int_fits kinds.Date nullable value (within32 value t))
literal_fits (literals.Decimal value precision scale nullable) =
    given_then (λ _. Unit {0}) Fits (ok_or (decimal_of precision scale) rules.UnsupportedType) _ (anything (ok_or (decimal_of precision scale) rules.UnsupportedType)) (λ kind _.
    where_fits (is_decimal kind value) kind nullable (values.Dec (decimal_number value)) (λ t. record { in_kind = decimal_in_kind kind value t; short = tt; allowed = λ e. cc }))
literal_fits (literals.Null raw nullable) =
    given_then (λ _. Unit {0}) Fits (type_in raw) _ (anything (type_in raw)) (λ ty _. record { in_kind = tt; short = tt; allowed = λ _. refl })
literal_fits literals.Missing = tt
literal_fits (literals.Unknown number) = tt

-- the kind of a literal is valid
where_valid : (test : Bool) (kind : Kind) (nullable : Bool) (value : Value) → IsKind kind → Given (λ (found : Value × Ty). IsKind found.1.kind) (constant_where test kind nullable value)
where_valid test kind nullable value valid = given_if (λ (found : Value × Ty). IsKind found.1.kind) test (constant kind nullable value) rules.BadLiteral (λ _. valid)

pub literal_valid : (raw : RawLiteral) → Given (λ (found : Value × Ty). IsKind found.1.kind) (literal_in raw)
literal_valid (literals.Boolean value nullable) = tt
literal_valid (literals.I8 value nullable) = where_valid (is_within 128 value) kinds.I8 nullable (values.Int value) tt
literal_valid (literals.I16 value nullable) = where_valid (is_within 32768 value) kinds.I16 nullable (values.Int value) tt
literal_valid (literals.I32 value nullable) = where_valid (is_within (2 ^ 31) value) kinds.I32 nullable (values.Int value) tt
literal_valid (literals.I64 value nullable) = where_valid (is_within (2 ^ 63) value) kinds.I64 nullable (values.Int value) tt
literal_valid (literals.String value nullable) = where_valid (is_utf8 value && nat_le (length value) MAX_TEXT) kinds.Text nullable (values.Bytes value) tt
literal_valid (literals.Binary value nullable) = where_valid (nat_le (length value) MAX_TEXT) kinds.Binary nullable (values.Bytes value) tt
literal_valid (literals.Timestamp value nullable) = where_valid (is_within (2 ^ 63) value) kinds.Timestamp nullable (values.Int value) tt
literal_valid (literals.Date value nullable) = where_valid (is_within (2 ^ 31) value) kinds.Date nullable (values.Int value) tt
literal_valid (literals.Decimal value precision scale nullable) =
    given_then IsKind (λ (found : Value × Ty). IsKind found.1.kind) (ok_or (decimal_of precision scale) rules.UnsupportedType) _ (given_ok_or IsKind (decimal_of precision scale) rules.UnsupportedType (decimal_valid precision scale)) (λ kind valid.
    where_valid (is_decimal kind value) kind nullable (values.Dec (decimal_number value)) valid)
literal_valid (literals.Null raw nullable) =
    given_then (λ (ty : Ty). IsKind ty.kind) (λ (found : Value × Ty). IsKind found.1.kind) (type_in raw) _ (type_valid raw rules.UnsupportedType) (λ ty valid. valid)
literal_valid literals.Missing = tt
literal_valid (literals.Unknown number) = tt

of_kind : (kind : Kind) (value : Value) (ty : Ty) → FitsTy ty value → is_equal ty.kind kind ≡ true → IsOfKind kind value
of_kind kind value ty f test = record { in_kind = subst (λ k. InKind k value) (equal_kinds ty.kind kind test) f.in_kind; short = f.short; allowed = λ _. refl }

value_fits : (kind : Kind) (written : Option RawLiteral) → Given (IsOfKind kind) (value_of_kind kind written)
value_fits kind written =
    given_then (λ _. Unit {0}) (IsOfKind kind) (ok_or written rules.MissingField) _ (anything (ok_or written rules.MissingField)) (λ raw _.
    given_then Fits (IsOfKind kind) (literal_in raw) _ (literal_fits raw) (λ found f.
    given_if (IsOfKind kind) (is_equal found.1.kind kind) found.0 rules.TypeMismatch (of_kind kind found.0 found.1 f)))

pub values_fit : (kind : Kind) (written : List (Option RawLiteral)) → Given (AllOf (IsOfKind kind) (length written)) (values_of_kind kind written)
values_fit kind written = given_collect (IsOfKind kind) (value_of_kind kind) written (value_fits kind)
