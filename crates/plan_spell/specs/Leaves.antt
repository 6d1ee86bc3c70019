-- The fields of the messages that hold no relation and no expression.
use Rattle.std.specs.Prelude.{ℕ, ℤ, List, [], ◌∷◌, Bool}
use Rattle.plan_scan.specs.declared.shape.Shape.TheVariants as s
use Rattle.plan_leaves.specs.declared.extensions.UriDecl.{UriDecl}
use Rattle.plan_leaves.specs.declared.extensions.FunDecl.{FunDecl}
use Rattle.plan_leaves.specs.declared.common.RelCommon.{RelCommon}
use Rattle.plan_leaves.specs.declared.common.RelCommon.TheVariants as common
use Rattle.plan_leaves.specs.declared.schema.NamedStruct.{NamedStruct}
use Rattle.plan_leaves.specs.declared.schema.NamedTable.{NamedTable}
use Rattle.plan_leaves.specs.declared.files.LocalFiles.{LocalFiles}
use Rattle.plan_leaves.specs.declared.files.FileItem.{FileItem}
use Rattle.plan_leaves.specs.declared.files.ItemPath.{ItemPath}
use Rattle.plan_leaves.specs.declared.files.ItemPath.TheVariants as path
use Rattle.plan_leaves.specs.declared.mask.MaskExpression.{MaskExpression}
use Rattle.plan_leaves.specs.declared.mask.MaskStruct.{MaskStruct}
use Rattle.plan_leaves.specs.declared.mask.MaskItem.{MaskItem}
use Rattle.plan_leaves.specs.declared.options.FunctionOption.{FunctionOption}
use Rattle.plan_leaves.specs.declared.reference.ReferenceSegment.{ReferenceSegment}
use Rattle.plan_leaves.specs.declared.reference.StructField.{StructField}
use Rattle.plan_leaves.specs.declared.literal.RawLiteral.{RawLiteral}
use Rattle.plan_leaves.specs.declared.literal.RawLiteral.TheVariants as l
use Rattle.plan_leaves.specs.declared.literal.LiteralRow.{LiteralRow}
use Rattle.plan_leaves.specs.declared.types.RawType.{RawType, RawType-F}
use Rattle.plan_leaves.specs.declared.types.RawType.TheVariants as t
use Rattle.plan_leaves.specs.declared.types.StructType.{StructType}
use Rattle.plan_spell.specs.Held.{Held, Int32s, Int64s, Truths, PackedInt32s, Part, uint32, int32, truth, block, blocks, messages, message, member, presence}

-- SimpleExtensionURI
abbrev pub uri_parts : UriDecl → List Part
uri_parts uri = uint32 1 uri.anchor ∷ block 2 uri.uri ∷ []

-- SimpleExtensionDeclaration, and its extension_function
abbrev pub declaration_parts : FunDecl → List Part
declaration_parts function = member 3 s.ExtensionFunction function ∷ []

abbrev pub function_parts : FunDecl → List Part
function_parts function = uint32 1 function.uri ∷ uint32 2 function.anchor ∷ block 3 function.name ∷ []

-- RelCommon
abbrev pub common_parts : RelCommon → List Part
common_parts common.Missing = []
common_parts common.Direct = member 1 s.Empty tt ∷ []
common_parts (common.Emit mapping) = member 2 s.Emit mapping ∷ []

abbrev pub emit_parts : List ℤ → List Part
emit_parts mapping = record { number = 1; held = PackedInt32s mapping } ∷ []

-- NamedStruct
abbrev pub named_struct_parts : NamedStruct → List Part
named_struct_parts schema = blocks 1 schema.names ∷ message 2 s.StructType schema.struct_ ∷ []

-- ReadRel.NamedTable
abbrev pub named_table_parts : NamedTable → List Part
named_table_parts table = blocks 1 table.names ∷ []

-- ReadRel.LocalFiles and its items
abbrev pub local_files_parts : LocalFiles → List Part
local_files_parts files = messages 1 s.FileItem files.items ∷ []

abbrev pub item_parts : Bool → ItemPath → List Part
item_parts arrow path.Missing = presence 10 arrow ∷ []
item_parts arrow (path.UriPath uri) = blocks 1 (uri ∷ []) ∷ presence 10 arrow ∷ []
item_parts arrow (path.UriFile uri) = blocks 3 (uri ∷ []) ∷ presence 10 arrow ∷ []

abbrev pub file_item_parts : FileItem → List Part
file_item_parts item = item_parts item.arrow item.path

-- Expression.MaskExpression
abbrev pub mask_parts : MaskExpression → List Part
mask_parts mask = message 1 s.StructSelect mask.select ∷ []

abbrev pub mask_struct_parts : MaskStruct → List Part
mask_struct_parts select = messages 1 s.StructItem select.struct_items ∷ []

abbrev pub mask_item_parts : MaskItem → List Part
mask_item_parts item = int32 1 item.field ∷ presence 2 item.child ∷ []

-- FunctionOption
abbrev pub option_parts : FunctionOption → List Part
option_parts option = block 1 option.name ∷ blocks 2 option.preference ∷ []

-- Expression.ReferenceSegment
abbrev pub segment_parts : ReferenceSegment → List Part
segment_parts segment = message 2 s.StructField segment.struct_field ∷ []

abbrev pub struct_field_parts : StructField → List Part
struct_field_parts field = int32 1 field.field ∷ presence 2 field.child ∷ []

-- Type
abbrev pub type_parts : RawType → RawType-F RawType → List Part
type_parts ty (RawType-F.Bool nullability) = member 1 s.PlainType nullability ∷ []
type_parts ty (RawType-F.I8 nullability) = member 2 s.PlainType nullability ∷ []
type_parts ty (RawType-F.I16 nullability) = member 3 s.PlainType nullability ∷ []
type_parts ty (RawType-F.I32 nullability) = member 5 s.PlainType nullability ∷ []
type_parts ty (RawType-F.I64 nullability) = member 7 s.PlainType nullability ∷ []
type_parts ty (RawType-F.String nullability) = member 12 s.PlainType nullability ∷ []
type_parts ty (RawType-F.Binary nullability) = member 13 s.PlainType nullability ∷ []
type_parts ty (RawType-F.Timestamp nullability) = member 14 s.PlainType nullability ∷ []
type_parts ty (RawType-F.Date nullability) = member 16 s.PlainType nullability ∷ []
type_parts ty (RawType-F.Decimal scale precision nullability) = member 24 s.DecimalType ty ∷ []
type_parts ty (RawType-F.Struct types) = member 25 s.StructType (record { types = types }) ∷ []
type_parts ty _ = []

-- the members of Type that have nothing but their nullability
abbrev pub plain_parts : ℕ → List Part
plain_parts nullability = uint32 2 nullability ∷ []

-- Type.Decimal
abbrev pub decimal_type_parts : RawType → List Part
decimal_type_parts (t.Decimal scale precision nullability) = int32 1 scale ∷ int32 2 precision ∷ uint32 4 nullability ∷ []
decimal_type_parts _ = []

-- Type.Struct
abbrev pub struct_type_parts : StructType → List Part
struct_type_parts struct = messages 1 s.DataType struct.types ∷ []

-- Expression.Literal: its member, and whether it is nullable
abbrev pub literal_with : Part → Bool → List Part
literal_with part nullable = part ∷ truth 50 nullable ∷ []

abbrev pub literal_parts : RawLiteral → List Part
literal_parts (l.Boolean value nullable) = literal_with (record { number = 1; held = Truths (value ∷ []) }) nullable
literal_parts (l.I8 value nullable) = literal_with (record { number = 2; held = Int32s (value ∷ []) }) nullable
literal_parts (l.I16 value nullable) = literal_with (record { number = 3; held = Int32s (value ∷ []) }) nullable
literal_parts (l.I32 value nullable) = literal_with (record { number = 5; held = Int32s (value ∷ []) }) nullable
literal_parts (l.I64 value nullable) = literal_with (record { number = 7; held = Int64s (value ∷ []) }) nullable
literal_parts (l.String value nullable) = literal_with (blocks 12 (value ∷ [])) nullable
literal_parts (l.Binary value nullable) = literal_with (blocks 13 (value ∷ [])) nullable
literal_parts (l.Timestamp value nullable) = literal_with (record { number = 14; held = Int64s (value ∷ []) }) nullable
literal_parts (l.Date value nullable) = literal_with (record { number = 16; held = Int32s (value ∷ []) }) nullable
literal_parts (l.Decimal value precision scale nullable) = literal_with (member 24 s.DecimalLiteral (l.Decimal value precision scale nullable)) nullable
literal_parts (l.Null ty nullable) = literal_with (member 29 s.DataType ty) nullable
literal_parts _ = []

-- Expression.Literal.Decimal
abbrev pub decimal_parts : RawLiteral → List Part
decimal_parts (l.Decimal value precision scale nullable) = block 1 value ∷ int32 2 precision ∷ int32 3 scale ∷ []
decimal_parts _ = []

-- Expression.Literal.Struct
abbrev pub literal_row_parts : LiteralRow → List Part
literal_row_parts row = messages 1 s.Literal row.fields ∷ []
