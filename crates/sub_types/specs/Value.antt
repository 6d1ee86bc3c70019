-- Which values are of a kind, and which rows fit their types.
use Rattle.std.specs.Prelude.{◌≡◌, ℕ, ◌^◌, ◌<◌, ◌≤◌, List, [], ◌∷◌, length, IsTrue, FitsSigned, unsigned_abs}
use Rattle.std.specs.Str.{IsUtf8}
use Rattle.std.specs.Int.{w8, w16, w32, w64}
use Rattle.sub_types.specs.declared.kind.Kind.{Kind}
use Rattle.sub_types.specs.declared.kind.Kind.TheVariants as kinds
use Rattle.sub_types.specs.declared.kind.Ty.{Ty}
use Rattle.sub_types.specs.declared.value.Value.{Value}
use Rattle.sub_types.specs.declared.value.Value.TheVariants as values

-- the most bytes of one text or binary value
abbrev pub MAX_TEXT : ℕ
MAX_TEXT = 1048576

-- null, or of the kind: in its range, with at most the precision's digits, and UTF-8 where it is a text
abbrev pub InKind : Kind → Value → Type 0
InKind _ values.Null = Unit {0}
InKind kinds.Bool (values.Bool b) = Unit {0}
InKind kinds.I8 (values.Int n) = FitsSigned w8 n
InKind kinds.I16 (values.Int n) = FitsSigned w16 n
InKind kinds.I32 (values.Int n) = FitsSigned w32 n
InKind kinds.I64 (values.Int n) = FitsSigned w64 n
InKind kinds.Date (values.Int n) = FitsSigned w32 n
InKind kinds.Timestamp (values.Int n) = FitsSigned w64 n
InKind (kinds.Decimal precision scale) (values.Dec n) = unsigned_abs n < 10 ^ precision
InKind kinds.Text (values.Bytes bytes) = IsUtf8 bytes
InKind kinds.Binary (values.Bytes bytes) = Unit {0}
InKind _ _ = ⊥

-- a text or binary value isn't too long
abbrev pub IsShort : Value → Type 0
IsShort (values.Bytes bytes) = length bytes ≤ MAX_TEXT
IsShort _ = Unit {0}

-- the value may stand in a column of this type
pub record FitsTy (ty : Ty) (value : Value) : Type 0 where
  pub in_kind : InKind ty.kind value
  pub short : IsShort value
  pub allowed : value ≡ values.Null → IsTrue ty.nullable

-- the row has one value for each type, and each fits
abbrev pub Fits : List Ty → List Value → Type 0
Fits [] [] = Unit {0}
Fits (ty ∷ types) (value ∷ row) = FitsTy ty value × Fits types row
Fits _ _ = ⊥
