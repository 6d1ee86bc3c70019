-- Expressions and what stands in them.
use Rattle.std.specs.Prelude.{ℕ, List, ◌==◌, if◌then◌else◌, unwrap_or}
use Rattle.std.specs.Option.{option_map_or}
use Rattle.pb_wire.specs.Payloads.{Field, uint32_field, bytes_field}
use Rattle.plan_scan.specs.declared.oneof.OneOf.TheVariants.{ArgumentType, RexType, SubqueryType}
use Rattle.plan_scan.specs.declared.shape.Shape.TheVariants as s
use Rattle.plan_raw.specs.declared.argument.FunctionArgument.{FunctionArgument}
use Rattle.plan_raw.specs.declared.argument.FunctionArgument.TheVariants as a
use Rattle.plan_raw.specs.declared.expr.RawExpr.{RawExpr}
use Rattle.plan_raw.specs.declared.expr.RawExpr.TheVariants as e
use Rattle.plan_raw.specs.declared.expr.IfClause.{IfClause, roll-IfClause}
use Rattle.plan_raw.specs.declared.expr.IfValue.{IfValue, roll-IfValue}
use Rattle.plan_parts.specs.Words.{part, parts, winner}
use Rattle.plan_parts.specs.Parts.{option_of, selection_of}
use Rattle.plan_parts.specs.Shapes.{Reader, child, children}

-- FunctionArgument
abbrev pub argument_member : Reader → ℕ → List Field → FunctionArgument
argument_member r number fields =
    if number == 1 then a.Enum (bytes_field 1 fields)
    else if number == 2 then option_map_or a.TypeArgument (child r s.DataType 2 fields) a.Missing
    else option_map_or a.Value (child r s.Expression 3 fields) a.Missing

abbrev pub argument_by : Reader → List Field → FunctionArgument
argument_by r fields = winner ArgumentType a.Missing (argument_member r) fields

-- Expression.ScalarFunction
abbrev pub scalar_function_by : Reader → List Field → RawExpr
scalar_function_by r fields = e.ScalarFunction (uint32_field 1 fields) (child r s.DataType 3 fields) (children r s.FunctionArgument 4 fields) (parts option_of 5 fields)

-- Expression.IfThen
abbrev pub if_clause_by : Reader → List Field → IfClause
if_clause_by r fields = roll-IfClause (record { if_ = child r s.Expression 1 fields; «then» = child r s.Expression 2 fields })

abbrev pub if_then_by : Reader → List Field → RawExpr
if_then_by r fields = e.IfThen (children r s.IfClause 1 fields) (child r s.Expression 2 fields)

-- Expression.SwitchExpression
abbrev pub if_value_by : Reader → List Field → IfValue
if_value_by r fields = roll-IfValue (record { if_ = child r s.Literal 1 fields; «then» = child r s.Expression 2 fields })

abbrev pub switch_by : Reader → List Field → RawExpr
switch_by r fields = e.SwitchExpression (children r s.IfValue 1 fields) (child r s.Expression 2 fields) (child r s.Expression 3 fields)

-- Expression.SingularOrList
abbrev pub singular_or_list_by : Reader → List Field → RawExpr
singular_or_list_by r fields = e.SingularOrList (child r s.Expression 1 fields) (children r s.Expression 2 fields)

-- Expression.Cast
abbrev pub cast_by : Reader → List Field → RawExpr
cast_by r fields = e.Cast (child r s.DataType 1 fields) (child r s.Expression 2 fields) (uint32_field 3 fields)

-- Expression.Subquery and its members
abbrev pub scalar_by : Reader → List Field → RawExpr
scalar_by r fields = e.Scalar (child r s.Rel 1 fields)

abbrev pub in_predicate_by : Reader → List Field → RawExpr
in_predicate_by r fields = e.InPredicate (children r s.Expression 1 fields) (child r s.Rel 2 fields)

abbrev pub set_predicate_by : Reader → List Field → RawExpr
set_predicate_by r fields = e.SetPredicate (uint32_field 1 fields) (child r s.Rel 2 fields)

abbrev pub subquery_member : Reader → ℕ → List Field → RawExpr
subquery_member r number fields =
    if number == 1 then unwrap_or (child r s.ScalarSubquery 1 fields) e.SubqueryMissing
    else if number == 2 then unwrap_or (child r s.InPredicate 2 fields) e.SubqueryMissing
    else if number == 3 then unwrap_or (child r s.SetPredicate 3 fields) e.SubqueryMissing
    else if number == 4 then e.SetComparison
    else e.SubqueryUnknown number

abbrev pub subquery_by : Reader → List Field → RawExpr
subquery_by r fields = winner SubqueryType e.SubqueryMissing (subquery_member r) fields

-- Expression
abbrev pub expression_member : Reader → ℕ → List Field → RawExpr
expression_member r number fields =
    if number == 1 then option_map_or e.Literal (child r s.Literal 1 fields) e.Missing
    else if number == 2 then unwrap_or (part selection_of 2 fields) e.Missing
    else if number == 3 then unwrap_or (child r s.ScalarFunction 3 fields) e.Missing
    else if number == 6 then unwrap_or (child r s.IfThen 6 fields) e.Missing
    else if number == 7 then unwrap_or (child r s.SwitchExpression 7 fields) e.Missing
    else if number == 8 then unwrap_or (child r s.SingularOrList 8 fields) e.Missing
    else if number == 11 then unwrap_or (child r s.Cast 11 fields) e.Missing
    else if number == 12 then unwrap_or (child r s.Subquery 12 fields) e.Missing
    else e.Unknown number

abbrev pub expression_by : Reader → List Field → RawExpr
expression_by r fields = winner RexType e.Missing (expression_member r) fields
