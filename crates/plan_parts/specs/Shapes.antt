-- What the messages are read as that may hold relations, expressions, literals or types.
use Rattle.std.specs.Prelude.{ℕ, List, Option}
use Rattle.std.specs.Option.{option_and_then}
use Rattle.std.specs.List.{filter_map}
use Rattle.pb_wire.specs.Payloads.{Field, fields_of, blocks, merged_message}
use Rattle.plan_scan.specs.declared.shape.Shape.{Shape}
use Rattle.plan_scan.specs.declared.shape.Shape.TheVariants as s
use Rattle.plan_raw.specs.declared.plan.RootDecl.{RootDecl}
use Rattle.plan_raw.specs.declared.rel.RawRel.{RawRel}
use Rattle.plan_raw.specs.declared.expr.RawExpr.{RawExpr}
use Rattle.plan_raw.specs.declared.expr.IfClause.{IfClause}
use Rattle.plan_raw.specs.declared.expr.IfValue.{IfValue}
use Rattle.plan_leaves.specs.declared.schema.NamedStruct.{NamedStruct}
use Rattle.plan_raw.specs.declared.source.VirtualTable.{VirtualTable}
use Rattle.plan_leaves.specs.declared.literal.LiteralRow.{LiteralRow}
use Rattle.plan_raw.specs.declared.source.ExprRow.{ExprRow}
use Rattle.plan_leaves.specs.declared.types.RawType.{RawType}
use Rattle.plan_leaves.specs.declared.types.StructType.{StructType}
use Rattle.plan_leaves.specs.declared.literal.RawLiteral.{RawLiteral}
use Rattle.plan_raw.specs.declared.argument.FunctionArgument.{FunctionArgument}
use Rattle.plan_raw.specs.declared.aggregate.Grouping.{Grouping}
use Rattle.plan_raw.specs.declared.aggregate.Measure.{Measure}
use Rattle.plan_raw.specs.declared.aggregate.AggregateFunction.{AggregateFunction}
use Rattle.plan_raw.specs.declared.aggregate.SortField.{SortField}

-- what a message of a shape is read as; the others hold no such message and are read where they stand
abbrev pub Tree : Shape → Type 0
Tree s.Rel = RawRel
Tree s.ReadRel = RawRel
Tree s.FilterRel = RawRel
Tree s.FetchRel = RawRel
Tree s.AggregateRel = RawRel
Tree s.SortRel = RawRel
Tree s.JoinRel = RawRel
Tree s.ProjectRel = RawRel
Tree s.SetRel = RawRel
Tree s.CrossRel = RawRel
Tree s.NamedStruct = NamedStruct
Tree s.VirtualTable = VirtualTable
Tree s.LiteralRow = LiteralRow
Tree s.ExpressionRow = ExprRow
Tree s.Grouping = Grouping
Tree s.Measure = Measure
Tree s.AggregateFunction = AggregateFunction
Tree s.SortField = SortField
Tree s.Expression = RawExpr
Tree s.ScalarFunction = RawExpr
Tree s.FunctionArgument = FunctionArgument
Tree s.IfThen = RawExpr
Tree s.IfClause = IfClause
Tree s.SwitchExpression = RawExpr
Tree s.IfValue = IfValue
Tree s.SingularOrList = RawExpr
Tree s.Cast = RawExpr
Tree s.Subquery = RawExpr
Tree s.ScalarSubquery = RawExpr
Tree s.InPredicate = RawExpr
Tree s.SetPredicate = RawExpr
Tree s.Literal = RawLiteral
Tree s.DataType = RawType
Tree s.StructType = StructType
Tree s.PlanRel = RootDecl
Tree s.RelRoot = RootDecl
Tree _ = Unit {0}

-- how messages one level further down are read: none where no level is left
abbrev pub Reader : Type 0
Reader = (shape : Shape) → List Field → Option (Tree shape)

-- the message of a singular field, or nothing where it is absent
abbrev pub child : Reader → (shape : Shape) → ℕ → List Field → Option (Tree shape)
child r shape number fields = option_and_then (λ bytes. r shape (fields_of bytes)) (merged_message number fields)

-- the messages of a repeated field
abbrev pub children : Reader → (shape : Shape) → ℕ → List Field → List (Tree shape)
children r shape number fields = filter_map (λ bytes. r shape (fields_of bytes)) (blocks number fields)
