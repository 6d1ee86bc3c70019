-- The messages that hold no relation, expression, literal or type.
use Rattle.std.specs.Prelude.{ℕ, List, ◌||◌, ◌==◌, if◌then◌else◌, unwrap_or}
use Rattle.std.specs.List.{filter_map}
use Rattle.pb_wire.specs.Payloads.{Field, fields_of, blocks, uint32_field, int32_field, bytes_field, int32_numbers}
use Rattle.plan_scan.specs.declared.oneof.OneOf.TheVariants.{EmitKind, PathType}
use Rattle.plan_leaves.specs.declared.extensions.UriDecl.{UriDecl}
use Rattle.plan_leaves.specs.declared.extensions.FunDecl.{FunDecl}
use Rattle.plan_leaves.specs.declared.common.RelCommon.{RelCommon}
use Rattle.plan_leaves.specs.declared.common.RelCommon.TheVariants as common
use Rattle.plan_leaves.specs.declared.schema.NamedTable.{NamedTable}
use Rattle.plan_leaves.specs.declared.files.LocalFiles.{LocalFiles}
use Rattle.plan_leaves.specs.declared.files.FileItem.{FileItem}
use Rattle.plan_leaves.specs.declared.files.ItemPath.{ItemPath}
use Rattle.plan_leaves.specs.declared.files.ItemPath.TheVariants as path
use Rattle.plan_leaves.specs.declared.mask.MaskExpression.{MaskExpression}
use Rattle.plan_leaves.specs.declared.mask.MaskStruct.{MaskStruct}
use Rattle.plan_leaves.specs.declared.mask.MaskItem.{MaskItem}
use Rattle.plan_leaves.specs.declared.options.FunctionOption.{FunctionOption}
use Rattle.plan_leaves.specs.declared.reference.ReferenceSegment.{ReferenceSegment}
use Rattle.plan_leaves.specs.declared.reference.StructField.{StructField}
use Rattle.plan_raw.specs.declared.expr.RawExpr.{RawExpr}
use Rattle.plan_raw.specs.declared.expr.RawExpr.TheVariants as e
use Rattle.plan_parts.specs.Words.{part, parts, is_there, winner}

-- SimpleExtensionURI
abbrev pub uri_of : List Field → UriDecl
uri_of fields = record { anchor = uint32_field 1 fields; uri = bytes_field 2 fields }

-- the extension_function of a SimpleExtensionDeclaration
abbrev pub function_of : List Field → FunDecl
function_of fields = record { uri = uint32_field 1 fields; anchor = uint32_field 2 fields; name = bytes_field 3 fields }

-- the functions of the declarations; one without a function gives none
abbrev pub functions_of : ℕ → List Field → List FunDecl
functions_of number fields = filter_map (λ bytes. part function_of 3 (fields_of bytes)) (blocks number fields)

-- RelCommon
abbrev pub emit_of : List Field → RelCommon
emit_of fields = common.Emit (int32_numbers 1 fields)

abbrev pub common_member : ℕ → List Field → RelCommon
common_member number fields = if number == 1 then common.Direct else unwrap_or (part emit_of 2 fields) common.Missing

abbrev pub common_of : List Field → RelCommon
common_of fields = winner EmitKind common.Missing common_member fields

-- ReadRel.NamedTable
abbrev pub named_table_of : List Field → NamedTable
named_table_of fields = record { names = blocks 1 fields }

-- ReadRel.LocalFiles and its items
abbrev pub path_member : ℕ → List Field → ItemPath
path_member number fields = if number == 1 then path.UriPath (bytes_field 1 fields) else path.UriFile (bytes_field 3 fields)

abbrev pub file_item_of : List Field → FileItem
file_item_of fields = record { path = winner PathType path.Missing path_member fields; arrow = is_there 10 fields }

abbrev pub local_files_of : List Field → LocalFiles
local_files_of fields = record { items = parts file_item_of 1 fields }

-- Expression.MaskExpression
abbrev pub mask_item_of : List Field → MaskItem
mask_item_of fields = record { field = int32_field 1 fields; child = is_there 2 fields }

abbrev pub mask_struct_of : List Field → MaskStruct
mask_struct_of fields = record { struct_items = parts mask_item_of 1 fields }

abbrev pub mask_of : List Field → MaskExpression
mask_of fields = record { select = part mask_struct_of 1 fields }

-- FunctionOption
abbrev pub option_of : List Field → FunctionOption
option_of fields = record { name = bytes_field 1 fields; preference = blocks 2 fields }

-- Expression.FieldReference; its fields 2, 3 and 5 are other forms of a reference
abbrev pub struct_field_of : List Field → StructField
struct_field_of fields = record { field = int32_field 1 fields; child = is_there 2 fields }

abbrev pub segment_of : List Field → ReferenceSegment
segment_of fields = record { struct_field = part struct_field_of 2 fields }

abbrev pub selection_of : List Field → RawExpr
selection_of fields = e.Selection (part segment_of 1 fields) (is_there 4 fields) (is_there 2 fields || is_there 3 fields || is_there 5 fields)
