-- Types and literals.
use Rattle.std.specs.Prelude.{ℕ, List, Bool, ◌==◌, if◌then◌else◌, unwrap_or}
use Rattle.std.specs.Option.{option_map_or}
use Rattle.pb_wire.specs.Payloads.{Field, uint32_field, int32_field, int64_field, bool_field, bytes_field}
use Rattle.plan_scan.specs.declared.oneof.OneOf.TheVariants.{LiteralType, TypeKind}
use Rattle.plan_scan.specs.declared.shape.Shape.TheVariants as s
use Rattle.plan_leaves.specs.declared.types.RawType.{RawType}
use Rattle.plan_leaves.specs.declared.types.RawType.TheVariants as t
use Rattle.plan_leaves.specs.declared.types.StructType.{StructType}
use Rattle.plan_leaves.specs.declared.literal.RawLiteral.{RawLiteral}
use Rattle.plan_leaves.specs.declared.literal.RawLiteral.TheVariants as l
use Rattle.plan_parts.specs.Words.{part, winner}
use Rattle.plan_parts.specs.Shapes.{Reader, child, children}

-- the nullability of a member of Type that has nothing else
abbrev pub nullability_of : ℕ → List Field → ℕ
nullability_of number fields = option_map_or (λ nullability. nullability) (part (uint32_field 2) number fields) 0

-- Type.Decimal
abbrev pub decimal_type_of : List Field → RawType
decimal_type_of fields = t.Decimal (int32_field 1 fields) (int32_field 2 fields) (uint32_field 4 fields)

-- the member for decimals
abbrev pub decimal_type_in : List Field → RawType
decimal_type_in fields = unwrap_or (part decimal_type_of 24 fields) t.Missing

-- Type.Struct
abbrev pub struct_type_by : Reader → List Field → StructType
struct_type_by r fields = record { types = children r s.DataType 1 fields }

-- a member of Type
abbrev pub type_member : Reader → ℕ → List Field → RawType
type_member r number fields =
    if number == 1 then t.Bool (nullability_of 1 fields)
    else if number == 2 then t.I8 (nullability_of 2 fields)
    else if number == 3 then t.I16 (nullability_of 3 fields)
    else if number == 5 then t.I32 (nullability_of 5 fields)
    else if number == 7 then t.I64 (nullability_of 7 fields)
    else if number == 12 then t.String (nullability_of 12 fields)
    else if number == 13 then t.Binary (nullability_of 13 fields)
    else if number == 14 then t.Timestamp (nullability_of 14 fields)
    else if number == 16 then t.Date (nullability_of 16 fields)
    else if number == 24 then decimal_type_in fields
    else if number == 25 then option_map_or (λ inner. t.Struct inner.types) (child r s.StructType 25 fields) t.Missing
    else t.Unknown number

-- Type
abbrev pub type_by : Reader → List Field → RawType
type_by r fields = winner TypeKind t.Missing (type_member r) fields

-- Expression.Literal.Decimal
abbrev pub decimal_of : Bool → List Field → RawLiteral
decimal_of nullable fields = l.Decimal (bytes_field 1 fields) (int32_field 2 fields) (int32_field 3 fields) nullable

-- the members for decimals and for null
abbrev pub decimal_in : Bool → List Field → RawLiteral
decimal_in nullable fields = unwrap_or (part (decimal_of nullable) 24 fields) l.Missing

abbrev pub null_by : Reader → Bool → List Field → RawLiteral
null_by r nullable fields = option_map_or (λ ty. l.Null ty nullable) (child r s.DataType 29 fields) l.Missing

-- a member of Expression.Literal
abbrev pub literal_member : Reader → Bool → ℕ → List Field → RawLiteral
literal_member r nullable number fields =
    if number == 1 then l.Boolean (bool_field 1 fields) nullable
    else if number == 2 then l.I8 (int32_field 2 fields) nullable
    else if number == 3 then l.I16 (int32_field 3 fields) nullable
    else if number == 5 then l.I32 (int32_field 5 fields) nullable
    else if number == 7 then l.I64 (int64_field 7 fields) nullable
    else if number == 12 then l.String (bytes_field 12 fields) nullable
    else if number == 13 then l.Binary (bytes_field 13 fields) nullable
    else if number == 14 then l.Timestamp (int64_field 14 fields) nullable
    else if number == 16 then l.Date (int32_field 16 fields) nullable
    else if number == 24 then decimal_in nullable fields
    else if number == 29 then null_by r nullable fields
    else l.Unknown number

-- Expression.Literal; whether it is nullable stands beside the member
abbrev pub literal_by : Reader → List Field → RawLiteral
literal_by r fields = winner LiteralType l.Missing (literal_member r (bool_field 50 fields)) fields
