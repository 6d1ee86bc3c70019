use Rattle.std.proofs.Common.{refl}
use Rattle.plan_scan.specs.declared.shape.Shape.TheVariants as s
use Rattle.spell_leaves.specs.declared.part.MessagesRef.TheVariants as m
use Rattle.spell_leaves.specs.Seen.{messages_seen, parts_seen}
use Rattle.spell_leaves.proofs.FrontLaws.{items_arm, single_arm}
use Rattle.spell_leaves.proofs.parts.parts_at.Goals as goal

pub returns-in-ExtensionUri : goal.returns-in-ExtensionUri
returns-in-ExtensionUri c = items_arm messages_seen (λ parts. parts_seen parts.items) c.uri_parts.result c.args.messages (m.ExtensionUri c.in-ExtensionUri.uris) c.args.at s.ExtensionUri c.in-ExtensionUri.uris.now c.index-uris-at.result c.in-ExtensionUri.is refl c.requires c.index-uris-at.is c.uri_parts.ensures

pub returns-in-ExtensionDeclaration : goal.returns-in-ExtensionDeclaration
returns-in-ExtensionDeclaration c = items_arm messages_seen (λ parts. parts_seen parts.items) c.declaration_parts.result c.args.messages (m.ExtensionDeclaration c.in-ExtensionDeclaration.functions) c.args.at s.ExtensionDeclaration c.in-ExtensionDeclaration.functions.now c.index-functions-at.result c.in-ExtensionDeclaration.is refl c.requires c.index-functions-at.is c.declaration_parts.ensures

pub returns-in-ExtensionFunction : goal.returns-in-ExtensionFunction
returns-in-ExtensionFunction c = single_arm messages_seen (λ parts. parts_seen parts.items) c.function_parts.result c.args.messages (m.ExtensionFunction c.in-ExtensionFunction.function) c.args.at s.ExtensionFunction c.in-ExtensionFunction.function.now c.in-ExtensionFunction.is refl c.requires c.function_parts.ensures

pub returns-in-RelCommon : goal.returns-in-RelCommon
returns-in-RelCommon c = items_arm messages_seen (λ parts. parts_seen parts.items) c.common_parts.result c.args.messages (m.RelCommon c.in-RelCommon.commons) c.args.at s.RelCommon c.in-RelCommon.commons.now c.index-commons-at.result c.in-RelCommon.is refl c.requires c.index-commons-at.is c.common_parts.ensures

pub returns-in-Emit : goal.returns-in-Emit
returns-in-Emit c = single_arm messages_seen (λ parts. parts_seen parts.items) c.emit_parts.result c.args.messages (m.Emit c.in-Emit.mapping) c.args.at s.Emit c.in-Emit.mapping.now c.in-Emit.is refl c.requires c.emit_parts.ensures

pub returns-in-NamedStruct : goal.returns-in-NamedStruct
returns-in-NamedStruct c = items_arm messages_seen (λ parts. parts_seen parts.items) c.named_struct_parts.result c.args.messages (m.NamedStruct c.in-NamedStruct.schemas) c.args.at s.NamedStruct c.in-NamedStruct.schemas.now c.index-schemas-at.result c.in-NamedStruct.is refl c.requires c.index-schemas-at.is c.named_struct_parts.ensures

pub returns-in-StructType : goal.returns-in-StructType
returns-in-StructType c = items_arm messages_seen (λ parts. parts_seen parts.items) c.struct_type_parts.result c.args.messages (m.StructType c.in-StructType.structs) c.args.at s.StructType c.in-StructType.structs.now c.index-structs-at.result c.in-StructType.is refl c.requires c.index-structs-at.is c.struct_type_parts.ensures

pub returns-in-TypeStruct : goal.returns-in-TypeStruct
returns-in-TypeStruct c = single_arm messages_seen (λ parts. parts_seen parts.items) c.type_struct_parts.result c.args.messages (m.TypeStruct c.in-TypeStruct.types) c.args.at s.StructType (record { types = c.in-TypeStruct.types.now }) c.in-TypeStruct.is refl c.requires c.type_struct_parts.ensures

pub returns-in-NamedTable : goal.returns-in-NamedTable
returns-in-NamedTable c = items_arm messages_seen (λ parts. parts_seen parts.items) c.named_table_parts.result c.args.messages (m.NamedTable c.in-NamedTable.tables) c.args.at s.NamedTable c.in-NamedTable.tables.now c.index-tables-at.result c.in-NamedTable.is refl c.requires c.index-tables-at.is c.named_table_parts.ensures

pub returns-in-LiteralRow : goal.returns-in-LiteralRow
returns-in-LiteralRow c = items_arm messages_seen (λ parts. parts_seen parts.items) c.literal_row_parts.result c.args.messages (m.LiteralRow c.in-LiteralRow.rows) c.args.at s.LiteralRow c.in-LiteralRow.rows.now c.index-rows-at.result c.in-LiteralRow.is refl c.requires c.index-rows-at.is c.literal_row_parts.ensures

pub returns-in-LocalFiles : goal.returns-in-LocalFiles
returns-in-LocalFiles c = items_arm messages_seen (λ parts. parts_seen parts.items) c.local_files_parts.result c.args.messages (m.LocalFiles c.in-LocalFiles.files) c.args.at s.LocalFiles c.in-LocalFiles.files.now c.index-files-at.result c.in-LocalFiles.is refl c.requires c.index-files-at.is c.local_files_parts.ensures

pub returns-in-FileItem : goal.returns-in-FileItem
returns-in-FileItem c = items_arm messages_seen (λ parts. parts_seen parts.items) c.file_item_parts.result c.args.messages (m.FileItem c.in-FileItem.items) c.args.at s.FileItem c.in-FileItem.items.now c.index-items-at.result c.in-FileItem.is refl c.requires c.index-items-at.is c.file_item_parts.ensures

pub returns-in-MaskExpression : goal.returns-in-MaskExpression
returns-in-MaskExpression c = items_arm messages_seen (λ parts. parts_seen parts.items) c.mask_parts.result c.args.messages (m.MaskExpression c.in-MaskExpression.masks) c.args.at s.MaskExpression c.in-MaskExpression.masks.now c.index-masks-at.result c.in-MaskExpression.is refl c.requires c.index-masks-at.is c.mask_parts.ensures

pub returns-in-StructSelect : goal.returns-in-StructSelect
returns-in-StructSelect c = items_arm messages_seen (λ parts. parts_seen parts.items) c.mask_struct_parts.result c.args.messages (m.StructSelect c.in-StructSelect.selects) c.args.at s.StructSelect c.in-StructSelect.selects.now c.index-selects-at.result c.in-StructSelect.is refl c.requires c.index-selects-at.is c.mask_struct_parts.ensures

pub returns-in-StructItem : goal.returns-in-StructItem
returns-in-StructItem c = items_arm messages_seen (λ parts. parts_seen parts.items) c.mask_item_parts.result c.args.messages (m.StructItem c.in-StructItem.items) c.args.at s.StructItem c.in-StructItem.items.now c.item_at.result.now c.in-StructItem.is refl c.requires c.item_at.ensures c.mask_item_parts.ensures

pub returns-in-FunctionOption : goal.returns-in-FunctionOption
returns-in-FunctionOption c = items_arm messages_seen (λ parts. parts_seen parts.items) c.option_parts.result c.args.messages (m.FunctionOption c.in-FunctionOption.options) c.args.at s.FunctionOption c.in-FunctionOption.options.now c.index-options-at.result c.in-FunctionOption.is refl c.requires c.index-options-at.is c.option_parts.ensures

pub returns-in-ReferenceSegment : goal.returns-in-ReferenceSegment
returns-in-ReferenceSegment c = items_arm messages_seen (λ parts. parts_seen parts.items) c.segment_parts.result c.args.messages (m.ReferenceSegment c.in-ReferenceSegment.segments) c.args.at s.ReferenceSegment c.in-ReferenceSegment.segments.now c.item_at-in-ReferenceSegment.result.now c.in-ReferenceSegment.is refl c.requires c.item_at-in-ReferenceSegment.ensures c.segment_parts.ensures

pub returns-in-StructField : goal.returns-in-StructField
returns-in-StructField c = items_arm messages_seen (λ parts. parts_seen parts.items) c.struct_field_parts.result c.args.messages (m.StructField c.in-StructField.fields) c.args.at s.StructField c.in-StructField.fields.now c.item_at-in-StructField.result.now c.in-StructField.is refl c.requires c.item_at-in-StructField.ensures c.struct_field_parts.ensures

pub returns-in-Literal : goal.returns-in-Literal
returns-in-Literal c = items_arm messages_seen (λ parts. parts_seen parts.items) c.literal_parts.result c.args.messages (m.Literal c.in-Literal.literals) c.args.at s.Literal c.in-Literal.literals.now c.index-literals-at.result c.in-Literal.is refl c.requires c.index-literals-at.is c.literal_parts.ensures

pub returns-in-DecimalLiteral : goal.returns-in-DecimalLiteral
returns-in-DecimalLiteral c = single_arm messages_seen (λ parts. parts_seen parts.items) c.decimal_parts.result c.args.messages (m.DecimalLiteral c.in-DecimalLiteral.literal) c.args.at s.DecimalLiteral c.in-DecimalLiteral.literal.now c.in-DecimalLiteral.is refl c.requires c.decimal_parts.ensures

pub returns-in-DataType : goal.returns-in-DataType
returns-in-DataType c = items_arm messages_seen (λ parts. parts_seen parts.items) c.type_parts.result c.args.messages (m.DataType c.in-DataType.types) c.args.at s.DataType c.in-DataType.types.now c.index-types-at.result c.in-DataType.is refl c.requires c.index-types-at.is c.type_parts.ensures

pub returns-in-PlainType : goal.returns-in-PlainType
returns-in-PlainType c = single_arm messages_seen (λ parts. parts_seen parts.items) c.plain_parts.result c.args.messages (m.PlainType c.in-PlainType.nullability) c.args.at s.PlainType c.in-PlainType.nullability c.in-PlainType.is refl c.requires c.plain_parts.ensures

pub returns-in-DecimalType : goal.returns-in-DecimalType
returns-in-DecimalType c = single_arm messages_seen (λ parts. parts_seen parts.items) c.decimal_type_parts.result c.args.messages (m.DecimalType c.in-DecimalType.ty) c.args.at s.DecimalType c.in-DecimalType.ty.now c.in-DecimalType.is refl c.requires c.decimal_type_parts.ensures
