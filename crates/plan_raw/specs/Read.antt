-- A read relation and a virtual table by their parts (Substrait's `ReadRel` and `ReadRel.VirtualTable`).
use Rattle.std.specs.Prelude.{List, Option, Some, None}
use Rattle.plan_leaves.specs.declared.common.RelCommon.{RelCommon}
use Rattle.plan_leaves.specs.declared.literal.LiteralRow.{LiteralRow}
use Rattle.plan_leaves.specs.declared.mask.MaskExpression.{MaskExpression}
use Rattle.plan_leaves.specs.declared.schema.NamedStruct.{NamedStruct}
use Rattle.plan_raw.specs.declared.argument.FunctionArgument.TheOpen.{RawRel-F}
use Rattle.plan_raw.specs.declared.expr.RawExpr.{RawExpr}
use Rattle.plan_raw.specs.declared.rel.RawRel.{RawRel, out-RawRel}
use Rattle.plan_raw.specs.declared.source.ExprRow.{ExprRow}
use Rattle.plan_raw.specs.declared.source.RawSource.{RawSource}
use Rattle.plan_raw.specs.declared.source.VirtualTable.{VirtualTable, out-VirtualTable}

-- the parts of a read
pub record Read : Type 0 where
  pub common : Option RelCommon
  pub base_schema : Option NamedStruct
  pub filter : Option RawExpr
  pub projection : Option MaskExpression
  pub source : RawSource
  pub best_effort_filter : Option RawExpr

-- the parts of a relation that is a read
abbrev pub read_of : RawRel → Option Read
read_of rel = elim (out-RawRel rel) [
  | RawRel-F.Read common base_schema filter projection source best_effort_filter ↦
      Some (record { common = common; base_schema = base_schema; filter = filter; projection = projection; source = source; best_effort_filter = best_effort_filter })
  | _ ↦ None
]

-- the rows of a virtual table that are literals
abbrev pub literal_rows : VirtualTable → List LiteralRow
literal_rows table = (out-VirtualTable table).values

-- its rows that are expressions
abbrev pub expression_rows : VirtualTable → List ExprRow
expression_rows table = (out-VirtualTable table).expressions
