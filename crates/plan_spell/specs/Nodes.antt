-- What the messages of a plan are in the tree (Substrait's plan.proto, algebra.proto, type.proto and function.proto).
use Rattle.std.specs.Prelude.{ℕ, ℤ, List}
use Rattle.plan_scan.specs.declared.shape.Shape.{Shape}
use Rattle.plan_scan.specs.declared.shape.Shape.TheVariants as s
use Rattle.plan_leaves.specs.declared.extensions.UriDecl.{UriDecl}
use Rattle.plan_leaves.specs.declared.extensions.FunDecl.{FunDecl}
use Rattle.plan_leaves.specs.declared.common.RelCommon.{RelCommon}
use Rattle.plan_leaves.specs.declared.schema.NamedTable.{NamedTable}
use Rattle.plan_leaves.specs.declared.files.LocalFiles.{LocalFiles}
use Rattle.plan_leaves.specs.declared.files.FileItem.{FileItem}
use Rattle.plan_leaves.specs.declared.mask.MaskExpression.{MaskExpression}
use Rattle.plan_leaves.specs.declared.mask.MaskStruct.{MaskStruct}
use Rattle.plan_leaves.specs.declared.mask.MaskItem.{MaskItem}
use Rattle.plan_leaves.specs.declared.options.FunctionOption.{FunctionOption}
use Rattle.plan_leaves.specs.declared.reference.ReferenceSegment.{ReferenceSegment}
use Rattle.plan_leaves.specs.declared.reference.StructField.{StructField}
use Rattle.plan_leaves.specs.declared.literal.RawLiteral.{RawLiteral}
use Rattle.plan_leaves.specs.declared.types.RawType.{RawType}
use Rattle.plan_raw.specs.declared.expr.RawExpr.{RawExpr}
use Rattle.plan_raw.specs.declared.plan.PlanTree.{PlanTree}
use Rattle.plan_parts.specs.Shapes.{Tree}

-- The part of the tree that a message of a shape is written from. A message of a oneof's member alone is written from what has
-- the oneof.
abbrev pub Node : Shape → Type 0
Node s.Plan = PlanTree
Node s.ExtensionUri = UriDecl
Node s.ExtensionDeclaration = FunDecl
Node s.ExtensionFunction = FunDecl
Node s.RelCommon = RelCommon
Node s.Emit = List ℤ
Node s.NamedTable = NamedTable
Node s.LocalFiles = LocalFiles
Node s.FileItem = FileItem
Node s.MaskExpression = MaskExpression
Node s.StructSelect = MaskStruct
Node s.StructItem = MaskItem
Node s.FunctionOption = FunctionOption
Node s.FieldReference = RawExpr
Node s.ReferenceSegment = ReferenceSegment
Node s.StructField = StructField
Node s.DecimalLiteral = RawLiteral
Node s.PlainType = ℕ
Node s.DecimalType = RawType
Node shape = Tree shape
