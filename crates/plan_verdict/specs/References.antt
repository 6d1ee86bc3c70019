-- References to columns (Substrait `Expression.FieldReference`).
use Rattle.std.specs.Prelude.{ℤ, pos, List, Bool, false, Option, Some, None, Result, slice_get, if◌then◌else◌}
use Rattle.std.specs.Option.{ok_or, option_map, option_and_then}
use Rattle.sub_types.specs.ResultSteps.{◌>>=◌}
use Rattle.sub_types.specs.declared.kind.Ty.{Ty}
use Rattle.plan_leaves.specs.declared.reference.ReferenceSegment.{ReferenceSegment}
use Rattle.plan_leaves.specs.declared.reference.StructField.{StructField}
use Rattle.plan_typed.specs.declared.expr.Expr.{Expr}
use Rattle.plan_typed.specs.declared.expr.Expr.TheVariants as exprs
use Rattle.plan_verdict.specs.declared.rule.Rule.{Rule}
use Rattle.plan_verdict.specs.declared.rule.Rule.TheVariants as rules

-- the place that a segment names, where it goes no further
abbrev pub plain_field : StructField → Option ℤ
plain_field field = if field.child then None else Some field.field

-- the place that a reference names, where it is of no other form
abbrev pub direct_field : Option ReferenceSegment → Bool → Option ℤ
direct_field (Some segment) false = option_and_then plain_field segment.struct_field
direct_field _ _ = None

-- the column at a place
abbrev pub column_of : List Ty → ℤ → Option Expr
column_of columns (pos place) = option_map (exprs.Column place) (slice_get columns place)
column_of columns _ = None

-- a reference to one of these columns
abbrev pub selection_in : List Ty → Option ReferenceSegment → Bool → Result Expr Rule
selection_in columns direct other = do
  field ← ok_or (direct_field direct other) rules.UnsupportedForm
  ok_or (column_of columns field) rules.BadReference
