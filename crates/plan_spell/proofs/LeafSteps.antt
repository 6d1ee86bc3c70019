-- What the messages that hold no relation and no expression are read back as.
use Rattle.std.proofs.Common.{◌≡◌, ◌∙◌, sym, ap, refl, ℕ, ℤ, List, [], ◌∷◌, Bool, true, false, Option, Some, None, unwrap_or, ◌||◌, inl, inr}
use Rattle.std.specs.Option.{option_map, option_map_or, option_and_then, option_to_list}
use Rattle.pb_wire.specs.Records.{Varint, Bytes}
use Rattle.pb_wire.specs.Payloads.{Field, fields_of, uint32_field, int32_numbers, bool_field}
use Rattle.plan_scan.specs.declared.oneof.OneOf.TheVariants.{PlanRelType, EmitKind, ReadType, PathType, OffsetMode, CountMode, RelType, ArgumentType, RexType, LiteralType, TypeKind, SubqueryType}
use Rattle.plan_scan.specs.declared.shape.Shape.TheVariants as s
use Rattle.plan_parts.specs.Words.{part, parts, is_there, winner}
use Rattle.plan_parts.specs.Parts as leaf
use Rattle.plan_parts.specs.Reader.{reader}
use Rattle.plan_spell.specs.Held.{whole_varint, truth_varint, Part}
use Rattle.plan_spell.specs.Spelled.{spelled_at}
use Rattle.plan_spell.specs.Leaves as leaves
use Rattle.plan_spell.specs.Exprs as exprs
use Rattle.plan_spell.specs.Exprs.{Opened}
use Rattle.plan_spell.specs.Rels as rels
use Rattle.plan_spell.specs.Known as known
use Rattle.plan_spell.proofs.HeldLaws.{winner_is, no_winner}
use Rattle.plan_spell.proofs.WrittenLaws.{IsBack, is_nullable, Written, records_in, read, only_back, uint32_is, int32_there, int32_is, int64_there, truth_there, truth_is, texts_are, bytes_there, bytes_are, uint32s_are, int32s_are, presence_is, other_is, absent_is, merged_is, child_is, part_is, children_are, parts_are}
use Rattle.plan_leaves.specs.declared.extensions.UriDecl.{UriDecl}
use Rattle.plan_leaves.specs.declared.extensions.FunDecl.{FunDecl}
use Rattle.plan_leaves.specs.declared.common.RelCommon.{RelCommon}
use Rattle.plan_leaves.specs.declared.common.RelCommon.TheVariants as common
use Rattle.plan_leaves.specs.declared.schema.NamedStruct.{NamedStruct}
use Rattle.plan_leaves.specs.declared.schema.NamedTable.{NamedTable}
use Rattle.plan_leaves.specs.declared.files.LocalFiles.{LocalFiles}
use Rattle.plan_leaves.specs.declared.files.FileItem.{FileItem}
use Rattle.plan_leaves.specs.declared.files.ItemPath.{ItemPath}
use Rattle.plan_leaves.specs.declared.files.ItemPath.TheVariants as path
use Rattle.plan_leaves.specs.declared.mask.MaskExpression.{MaskExpression}
use Rattle.plan_leaves.specs.declared.mask.MaskStruct.{MaskStruct}
use Rattle.plan_leaves.specs.declared.mask.MaskItem.{MaskItem}
use Rattle.plan_leaves.specs.declared.options.FunctionOption.{FunctionOption}
use Rattle.plan_leaves.specs.declared.reference.ReferenceSegment.{ReferenceSegment}
use Rattle.plan_leaves.specs.declared.reference.StructField.{StructField}
use Rattle.plan_leaves.specs.declared.literal.RawLiteral.{RawLiteral}
use Rattle.plan_leaves.specs.declared.literal.RawLiteral.TheVariants as l
use Rattle.plan_leaves.specs.declared.literal.LiteralRow.{LiteralRow}
use Rattle.plan_leaves.specs.declared.types.RawType.{RawType, RawType-F, roll-RawType}
use Rattle.plan_leaves.specs.declared.types.RawType.TheVariants as t
use Rattle.plan_leaves.specs.declared.types.StructType.{StructType}
use Rattle.plan_parts.specs.Types.{nullability_of, decimal_type_of, type_member, type_by, struct_type_by, literal_member, literal_by, decimal_of, null_by}
use Rattle.plan_parts.specs.Rels.{named_struct_by, literal_row_by}

pub uri_step : {n : ℕ} (uri : UriDecl) → Written n s.ExtensionUri (leaves.uri_parts uri) → leaf.uri_of (records_in n (leaves.uri_parts uri)) ≡ uri
uri_step {n} uri w = λ i. record { anchor = (uint32_is w 1 uri.anchor refl) i; uri = (bytes_are w 2 uri.uri refl) i }

pub declaration_step : {n : ℕ} (function : FunDecl) → Written n s.ExtensionDeclaration (leaves.declaration_parts function) → part leaf.function_of 3 (records_in n (leaves.declaration_parts function)) ≡ Some function
declaration_step {n} function w = part_is w 3 (λ b. leaf.function_of (fields_of b)) (spelled_at n s.ExtensionFunction) (Some function) refl (w.back 3)

pub function_step : {n : ℕ} (function : FunDecl) → Written n s.ExtensionFunction (leaves.function_parts function) → leaf.function_of (records_in n (leaves.function_parts function)) ≡ function
function_step {n} function w = λ i. record { uri = (uint32_is w 1 function.uri refl) i; anchor = (uint32_is w 2 function.anchor refl) i; name = (bytes_are w 3 function.name refl) i }

pub common_step : {n : ℕ} (common : RelCommon) → Written n s.RelCommon (leaves.common_parts common) → leaf.common_of (records_in n (leaves.common_parts common)) ≡ common
common_step {n} common.Missing w = no_winner EmitKind common.Missing leaf.common_member (spelled_at n) (leaves.common_parts common.Missing) refl
common_step {n} common.Direct w = winner_is EmitKind common.Missing leaf.common_member (spelled_at n) (leaves.common_parts common.Direct) 1 (Bytes (spelled_at n s.Empty tt)) refl refl
common_step {n} (common.Emit mapping) w =
    winner_is EmitKind common.Missing leaf.common_member (spelled_at n) (leaves.common_parts (common.Emit mapping)) 2 (Bytes (spelled_at n s.Emit mapping)) refl refl
    ∙ ap (λ o. unwrap_or (option_map (λ b. leaf.emit_of (fields_of b)) o) common.Missing) (merged_is w 2 (spelled_at n s.Emit mapping) refl)
    ∙ ap common.Emit (only_back n s.Emit mapping (w.back 2))

pub emit_step : {n : ℕ} (mapping : List ℤ) → Written n s.Emit (leaves.emit_parts mapping) → int32_numbers 1 (records_in n (leaves.emit_parts mapping)) ≡ mapping
emit_step mapping w = int32s_are w 1 mapping refl

pub named_table_step : {n : ℕ} (table : NamedTable) → Written n s.NamedTable (leaves.named_table_parts table) → leaf.named_table_of (records_in n (leaves.named_table_parts table)) ≡ table
named_table_step {n} table w = λ i. record { names = (texts_are w 1 table.names refl) i }

pub local_files_step : {n : ℕ} (files : LocalFiles) → Written n s.LocalFiles (leaves.local_files_parts files) → leaf.local_files_of (records_in n (leaves.local_files_parts files)) ≡ files
local_files_step {n} files w = λ i. record { items = (parts_are w 1 (λ b. leaf.file_item_of (fields_of b)) (spelled_at n s.FileItem) (files.items) refl (w.back 1)) i }

path_step : {n : ℕ} (way : ItemPath) (arrow : Bool) → Written n s.FileItem (leaves.file_item_parts (record { path = way; arrow = arrow })) →
    winner PathType path.Missing leaf.path_member (records_in n (leaves.file_item_parts (record { path = way; arrow = arrow }))) ≡ way
path_step {n} path.Missing arrow w = no_winner PathType path.Missing leaf.path_member (spelled_at n) (leaves.file_item_parts (record { path = path.Missing; arrow = arrow })) refl
path_step {n} (path.UriPath uri) arrow w = winner_is PathType path.Missing leaf.path_member (spelled_at n) (leaves.file_item_parts (record { path = path.UriPath uri; arrow = arrow })) 1 (Bytes uri) refl refl ∙ ap path.UriPath (bytes_there w 1 uri refl)
path_step {n} (path.UriFile uri) arrow w = winner_is PathType path.Missing leaf.path_member (spelled_at n) (leaves.file_item_parts (record { path = path.UriFile uri; arrow = arrow })) 3 (Bytes uri) refl refl ∙ ap path.UriFile (bytes_there w 3 uri refl)

arrow_step : {n : ℕ} (way : ItemPath) (arrow : Bool) → Written n s.FileItem (leaves.file_item_parts (record { path = way; arrow = arrow })) → is_there 10 (records_in n (leaves.file_item_parts (record { path = way; arrow = arrow }))) ≡ arrow
arrow_step path.Missing arrow w = presence_is w 10 arrow refl
arrow_step (path.UriPath uri) arrow w = presence_is w 10 arrow refl
arrow_step (path.UriFile uri) arrow w = presence_is w 10 arrow refl

pub file_item_step : {n : ℕ} (item : FileItem) → Written n s.FileItem (leaves.file_item_parts item) → leaf.file_item_of (records_in n (leaves.file_item_parts item)) ≡ item
file_item_step item w = λ i. record { path = path_step item.path item.arrow w i; arrow = arrow_step item.path item.arrow w i }

pub mask_step : {n : ℕ} (mask : MaskExpression) → Written n s.MaskExpression (leaves.mask_parts mask) → leaf.mask_of (records_in n (leaves.mask_parts mask)) ≡ mask
mask_step {n} mask w = λ i. record { select = (part_is w 1 (λ b. leaf.mask_struct_of (fields_of b)) (spelled_at n s.StructSelect) (mask.select) refl (w.back 1)) i }

pub mask_struct_step : {n : ℕ} (select : MaskStruct) → Written n s.StructSelect (leaves.mask_struct_parts select) → leaf.mask_struct_of (records_in n (leaves.mask_struct_parts select)) ≡ select
mask_struct_step {n} select w = λ i. record { struct_items = (parts_are w 1 (λ b. leaf.mask_item_of (fields_of b)) (spelled_at n s.StructItem) (select.struct_items) refl (w.back 1)) i }

pub mask_item_step : {n : ℕ} (item : MaskItem) → Written n s.StructItem (leaves.mask_item_parts item) → leaf.mask_item_of (records_in n (leaves.mask_item_parts item)) ≡ item
mask_item_step {n} item w = λ i. record { field = (int32_is w 1 item.field refl) i; child = (presence_is w 2 item.child refl) i }

pub option_step : {n : ℕ} (option : FunctionOption) → Written n s.FunctionOption (leaves.option_parts option) → leaf.option_of (records_in n (leaves.option_parts option)) ≡ option
option_step {n} option w = λ i. record { name = (bytes_are w 1 option.name refl) i; preference = (texts_are w 2 option.preference refl) i }

pub segment_step : {n : ℕ} (segment : ReferenceSegment) → Written n s.ReferenceSegment (leaves.segment_parts segment) → leaf.segment_of (records_in n (leaves.segment_parts segment)) ≡ segment
segment_step {n} segment w = λ i. record { struct_field = (part_is w 2 (λ b. leaf.struct_field_of (fields_of b)) (spelled_at n s.StructField) (segment.struct_field) refl (w.back 2)) i }

pub struct_field_step : {n : ℕ} (field : StructField) → Written n s.StructField (leaves.struct_field_parts field) → leaf.struct_field_of (records_in n (leaves.struct_field_parts field)) ≡ field
struct_field_step {n} field w = λ i. record { field = (int32_is w 1 field.field refl) i; child = (presence_is w 2 field.child refl) i }

pub named_struct_step : {n : ℕ} (schema : NamedStruct) → Written n s.NamedStruct (leaves.named_struct_parts schema) → named_struct_by (reader n) (records_in n (leaves.named_struct_parts schema)) ≡ schema
named_struct_step {n} schema w = λ i. record { names = (texts_are w 1 schema.names refl) i; struct_ = (child_is w 2 (read n s.StructType) (spelled_at n s.StructType) (schema.struct_) refl (w.back 2)) i }

pub struct_type_step : {n : ℕ} (struct : StructType) → Written n s.StructType (leaves.struct_type_parts struct) → struct_type_by (reader n) (records_in n (leaves.struct_type_parts struct)) ≡ struct
struct_type_step {n} struct w = λ i. record { types = (children_are w 1 (read n s.DataType) (spelled_at n s.DataType) (struct.types) refl (w.back 1)) i }

pub literal_row_step : {n : ℕ} (row : LiteralRow) → Written n s.LiteralRow (leaves.literal_row_parts row) → literal_row_by (reader n) (records_in n (leaves.literal_row_parts row)) ≡ row
literal_row_step {n} row w = λ i. record { fields = (children_are w 1 (read n s.Literal) (spelled_at n s.Literal) (row.fields) refl (w.back 1)) i }

pub plain_step : {n : ℕ} (nullability : ℕ) → Written n s.PlainType (leaves.plain_parts nullability) → uint32_field 2 (records_in n (leaves.plain_parts nullability)) ≡ nullability
plain_step nullability w = uint32_is w 2 nullability refl

pub decimal_type_step : {n : ℕ} (ty : RawType) → known.IsDecimalType ty → Written n s.DecimalType (leaves.decimal_type_parts ty) → decimal_type_of (records_in n (leaves.decimal_type_parts ty)) ≡ ty
decimal_type_step (t.Decimal scale precision nullability) is w = λ i. t.Decimal (int32_is w 1 scale refl i) (int32_is w 2 precision refl i) (uint32_is w 4 nullability refl i)
decimal_type_step _ is w = absurd is

pub type_step : {n : ℕ} (o : RawType-F RawType) (ty : RawType) → roll-RawType o ≡ ty → known.IsKnownType o → Written n s.DataType (leaves.type_parts ty o) → type_by (reader n) (records_in n (leaves.type_parts ty o)) ≡ ty
type_step {n} RawType-F.Missing ty is form w = no_winner TypeKind t.Missing (type_member (reader n)) (spelled_at n) (leaves.type_parts ty RawType-F.Missing) refl ∙ sym t.rolls-Missing ∙ is
type_step (RawType-F.Unknown number) ty is form w = absurd form
type_step {n} (RawType-F.Bool nullability) ty is form w =
    winner_is TypeKind t.Missing (type_member (reader n)) (spelled_at n) (leaves.type_parts ty (RawType-F.Bool nullability)) 1 (Bytes (spelled_at n s.PlainType nullability)) refl refl
    ∙ ap (λ o. t.Bool (option_map_or (λ value. value) o 0)) (part_is w 1 (λ b. uint32_field 2 (fields_of b)) (spelled_at n s.PlainType) (Some nullability) refl (w.back 1)) ∙ sym (t.rolls-Bool nullability) ∙ is
type_step {n} (RawType-F.I8 nullability) ty is form w =
    winner_is TypeKind t.Missing (type_member (reader n)) (spelled_at n) (leaves.type_parts ty (RawType-F.I8 nullability)) 2 (Bytes (spelled_at n s.PlainType nullability)) refl refl
    ∙ ap (λ o. t.I8 (option_map_or (λ value. value) o 0)) (part_is w 2 (λ b. uint32_field 2 (fields_of b)) (spelled_at n s.PlainType) (Some nullability) refl (w.back 2)) ∙ sym (t.rolls-I8 nullability) ∙ is
type_step {n} (RawType-F.I16 nullability) ty is form w =
    winner_is TypeKind t.Missing (type_member (reader n)) (spelled_at n) (leaves.type_parts ty (RawType-F.I16 nullability)) 3 (Bytes (spelled_at n s.PlainType nullability)) refl refl
    ∙ ap (λ o. t.I16 (option_map_or (λ value. value) o 0)) (part_is w 3 (λ b. uint32_field 2 (fields_of b)) (spelled_at n s.PlainType) (Some nullability) refl (w.back 3)) ∙ sym (t.rolls-I16 nullability) ∙ is
type_step {n} (RawType-F.I32 nullability) ty is form w =
    winner_is TypeKind t.Missing (type_member (reader n)) (spelled_at n) (leaves.type_parts ty (RawType-F.I32 nullability)) 5 (Bytes (spelled_at n s.PlainType nullability)) refl refl
    ∙ ap (λ o. t.I32 (option_map_or (λ value. value) o 0)) (part_is w 5 (λ b. uint32_field 2 (fields_of b)) (spelled_at n s.PlainType) (Some nullability) refl (w.back 5)) ∙ sym (t.rolls-I32 nullability) ∙ is
type_step {n} (RawType-F.I64 nullability) ty is form w =
    winner_is TypeKind t.Missing (type_member (reader n)) (spelled_at n) (leaves.type_parts ty (RawType-F.I64 nullability)) 7 (Bytes (spelled_at n s.PlainType nullability)) refl refl
    ∙ ap (λ o. t.I64 (option_map_or (λ value. value) o 0)) (part_is w 7 (λ b. uint32_field 2 (fields_of b)) (spelled_at n s.PlainType) (Some nullability) refl (w.back 7)) ∙ sym (t.rolls-I64 nullability) ∙ is
type_step {n} (RawType-F.String nullability) ty is form w =
    winner_is TypeKind t.Missing (type_member (reader n)) (spelled_at n) (leaves.type_parts ty (RawType-F.String nullability)) 12 (Bytes (spelled_at n s.PlainType nullability)) refl refl
    ∙ ap (λ o. t.String (option_map_or (λ value. value) o 0)) (part_is w 12 (λ b. uint32_field 2 (fields_of b)) (spelled_at n s.PlainType) (Some nullability) refl (w.back 12)) ∙ sym (t.rolls-String nullability) ∙ is
type_step {n} (RawType-F.Binary nullability) ty is form w =
    winner_is TypeKind t.Missing (type_member (reader n)) (spelled_at n) (leaves.type_parts ty (RawType-F.Binary nullability)) 13 (Bytes (spelled_at n s.PlainType nullability)) refl refl
    ∙ ap (λ o. t.Binary (option_map_or (λ value. value) o 0)) (part_is w 13 (λ b. uint32_field 2 (fields_of b)) (spelled_at n s.PlainType) (Some nullability) refl (w.back 13)) ∙ sym (t.rolls-Binary nullability) ∙ is
type_step {n} (RawType-F.Timestamp nullability) ty is form w =
    winner_is TypeKind t.Missing (type_member (reader n)) (spelled_at n) (leaves.type_parts ty (RawType-F.Timestamp nullability)) 14 (Bytes (spelled_at n s.PlainType nullability)) refl refl
    ∙ ap (λ o. t.Timestamp (option_map_or (λ value. value) o 0)) (part_is w 14 (λ b. uint32_field 2 (fields_of b)) (spelled_at n s.PlainType) (Some nullability) refl (w.back 14)) ∙ sym (t.rolls-Timestamp nullability) ∙ is
type_step {n} (RawType-F.Date nullability) ty is form w =
    winner_is TypeKind t.Missing (type_member (reader n)) (spelled_at n) (leaves.type_parts ty (RawType-F.Date nullability)) 16 (Bytes (spelled_at n s.PlainType nullability)) refl refl
    ∙ ap (λ o. t.Date (option_map_or (λ value. value) o 0)) (part_is w 16 (λ b. uint32_field 2 (fields_of b)) (spelled_at n s.PlainType) (Some nullability) refl (w.back 16)) ∙ sym (t.rolls-Date nullability) ∙ is
type_step {n} (RawType-F.Decimal scale precision nullability) ty is form w =
    winner_is TypeKind t.Missing (type_member (reader n)) (spelled_at n) (leaves.type_parts ty (RawType-F.Decimal scale precision nullability)) 24 (Bytes (spelled_at n s.DecimalType ty)) refl refl
    ∙ ap (λ o. unwrap_or o t.Missing) (part_is w 24 (λ b. decimal_type_of (fields_of b)) (spelled_at n s.DecimalType) (Some ty) refl (w.back 24))
type_step {n} (RawType-F.Struct types) ty is form w =
    winner_is TypeKind t.Missing (type_member (reader n)) (spelled_at n) (leaves.type_parts ty (RawType-F.Struct types)) 25 (Bytes (spelled_at n s.StructType (record { types = types }))) refl refl
    ∙ ap (λ o. option_map_or (λ (inner : StructType). t.Struct inner.types) o t.Missing) (child_is w 25 (read n s.StructType) (spelled_at n s.StructType) (Some (record { types = types })) refl (w.back 25)) ∙ sym (t.rolls-Struct types) ∙ is

pub literal_step : {n : ℕ} (literal : RawLiteral) → known.IsKnownLiteral literal → Written n s.Literal (leaves.literal_parts literal) → literal_by (reader n) (records_in n (leaves.literal_parts literal)) ≡ literal
literal_step {n} l.Missing form w = no_winner LiteralType l.Missing (literal_member (reader n) (bool_field 50 (records_in n (leaves.literal_parts l.Missing)))) (spelled_at n) (leaves.literal_parts l.Missing) refl
literal_step (l.Unknown number) form w = absurd form
literal_step {n} (l.Boolean value nullable) form w =
    winner_is LiteralType l.Missing (literal_member (reader n) (bool_field 50 (records_in n (leaves.literal_parts (l.Boolean value nullable))))) (spelled_at n) (leaves.literal_parts (l.Boolean value nullable)) 1 (Varint (truth_varint value)) refl refl
    ∙ (λ i. l.Boolean (truth_there w 1 value refl i) (truth_is w 50 nullable refl i))
literal_step {n} (l.I8 value nullable) form w =
    winner_is LiteralType l.Missing (literal_member (reader n) (bool_field 50 (records_in n (leaves.literal_parts (l.I8 value nullable))))) (spelled_at n) (leaves.literal_parts (l.I8 value nullable)) 2 (Varint (whole_varint value)) refl refl
    ∙ (λ i. l.I8 (int32_there w 2 value refl i) (truth_is w 50 nullable refl i))
literal_step {n} (l.I16 value nullable) form w =
    winner_is LiteralType l.Missing (literal_member (reader n) (bool_field 50 (records_in n (leaves.literal_parts (l.I16 value nullable))))) (spelled_at n) (leaves.literal_parts (l.I16 value nullable)) 3 (Varint (whole_varint value)) refl refl
    ∙ (λ i. l.I16 (int32_there w 3 value refl i) (truth_is w 50 nullable refl i))
literal_step {n} (l.I32 value nullable) form w =
    winner_is LiteralType l.Missing (literal_member (reader n) (bool_field 50 (records_in n (leaves.literal_parts (l.I32 value nullable))))) (spelled_at n) (leaves.literal_parts (l.I32 value nullable)) 5 (Varint (whole_varint value)) refl refl
    ∙ (λ i. l.I32 (int32_there w 5 value refl i) (truth_is w 50 nullable refl i))
literal_step {n} (l.Date value nullable) form w =
    winner_is LiteralType l.Missing (literal_member (reader n) (bool_field 50 (records_in n (leaves.literal_parts (l.Date value nullable))))) (spelled_at n) (leaves.literal_parts (l.Date value nullable)) 16 (Varint (whole_varint value)) refl refl
    ∙ (λ i. l.Date (int32_there w 16 value refl i) (truth_is w 50 nullable refl i))
literal_step {n} (l.I64 value nullable) form w =
    winner_is LiteralType l.Missing (literal_member (reader n) (bool_field 50 (records_in n (leaves.literal_parts (l.I64 value nullable))))) (spelled_at n) (leaves.literal_parts (l.I64 value nullable)) 7 (Varint (whole_varint value)) refl refl
    ∙ (λ i. l.I64 (int64_there w 7 value refl i) (truth_is w 50 nullable refl i))
literal_step {n} (l.Timestamp value nullable) form w =
    winner_is LiteralType l.Missing (literal_member (reader n) (bool_field 50 (records_in n (leaves.literal_parts (l.Timestamp value nullable))))) (spelled_at n) (leaves.literal_parts (l.Timestamp value nullable)) 14 (Varint (whole_varint value)) refl refl
    ∙ (λ i. l.Timestamp (int64_there w 14 value refl i) (truth_is w 50 nullable refl i))
literal_step {n} (l.String value nullable) form w =
    winner_is LiteralType l.Missing (literal_member (reader n) (bool_field 50 (records_in n (leaves.literal_parts (l.String value nullable))))) (spelled_at n) (leaves.literal_parts (l.String value nullable)) 12 (Bytes value) refl refl
    ∙ (λ i. l.String (bytes_there w 12 value refl i) (truth_is w 50 nullable refl i))
literal_step {n} (l.Binary value nullable) form w =
    winner_is LiteralType l.Missing (literal_member (reader n) (bool_field 50 (records_in n (leaves.literal_parts (l.Binary value nullable))))) (spelled_at n) (leaves.literal_parts (l.Binary value nullable)) 13 (Bytes value) refl refl
    ∙ (λ i. l.Binary (bytes_there w 13 value refl i) (truth_is w 50 nullable refl i))
literal_step {n} (l.Decimal value precision scale nullable) form w =
    winner_is LiteralType l.Missing (literal_member (reader n) (bool_field 50 (records_in n (leaves.literal_parts (l.Decimal value precision scale nullable))))) (spelled_at n) (leaves.literal_parts (l.Decimal value precision scale nullable)) 24 (Bytes (spelled_at n s.DecimalLiteral (l.Decimal value precision scale nullable))) refl refl
    ∙ (λ i. unwrap_or (option_map (λ b. decimal_of (truth_is w 50 nullable refl i) (fields_of b)) (merged_is w 24 (spelled_at n s.DecimalLiteral (l.Decimal value precision scale nullable)) refl i)) l.Missing)
    ∙ only_back n s.DecimalLiteral (l.Decimal value precision scale nullable) (w.back 24)
literal_step {n} (l.Null ty nullable) form w =
    winner_is LiteralType l.Missing (literal_member (reader n) (bool_field 50 (records_in n (leaves.literal_parts (l.Null ty nullable))))) (spelled_at n) (leaves.literal_parts (l.Null ty nullable)) 29 (Bytes (spelled_at n s.DataType ty)) refl refl
    ∙ (λ i. option_map_or (λ found. l.Null found (truth_is w 50 nullable refl i)) ((child_is w 29 (read n s.DataType) (spelled_at n s.DataType) (Some ty) refl (w.back 29)) i) l.Missing)

pub decimal_step : {n : ℕ} (literal : RawLiteral) → known.IsDecimal literal → Written n s.DecimalLiteral (leaves.decimal_parts literal) → decimal_of (is_nullable literal) (records_in n (leaves.decimal_parts literal)) ≡ literal
decimal_step (l.Decimal value precision scale nullable) is w = λ i. l.Decimal (bytes_are w 1 value refl i) (int32_is w 2 precision refl i) (int32_is w 3 scale refl i) nullable
decimal_step _ is w = absurd is
