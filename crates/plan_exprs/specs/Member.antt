-- The message of an expression's member, by the member's number.
use Rattle.std.specs.Prelude.{ℕ, List, ◌==◌, if◌then◌else◌}
use Rattle.pb_wire.specs.Payloads.{Field}
use Rattle.plan_raw.specs.declared.expr.RawExpr.{RawExpr}
use Rattle.plan_raw.specs.declared.expr.RawExpr.TheVariants as expr
use Rattle.plan_parts.specs.Shapes.{Reader}
use Rattle.plan_parts.specs.Types.{literal_by}
use Rattle.plan_parts.specs.Parts.{selection_of}
use Rattle.plan_parts.specs.Exprs as exprs

-- what the records of the message are read as
abbrev pub expr_in : Reader → ℕ → List Field → RawExpr
expr_in r number fields =
    if number == 1 then expr.Literal (literal_by r fields)
    else if number == 2 then selection_of fields
    else if number == 3 then exprs.scalar_function_by r fields
    else if number == 6 then exprs.if_then_by r fields
    else if number == 7 then exprs.switch_by r fields
    else if number == 8 then exprs.singular_or_list_by r fields
    else if number == 11 then exprs.cast_by r fields
    else if number == 12 then exprs.subquery_by r fields
    else expr.Unknown number
