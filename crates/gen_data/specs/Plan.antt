-- The demo's plan as it is written: the lines joined to their orders, the quantities of each region summed and counted, and the
-- regions in order.
use Rattle.std.specs.Prelude.{ℕ, pos, List, [], ◌∷◌, ◌++◌, true, false, Some, None, codes}
use Rattle.plan_leaves.specs.declared.extensions.FunDecl.{FunDecl}
use Rattle.plan_leaves.specs.declared.extensions.UriDecl.{UriDecl}
use Rattle.plan_leaves.specs.declared.types.RawType.{RawType}
use Rattle.plan_leaves.specs.declared.types.RawType.TheVariants as t
use Rattle.plan_raw.specs.declared.aggregate.AggregateFunction.{roll-AggregateFunction}
use Rattle.plan_raw.specs.declared.aggregate.Grouping.{Grouping, roll-Grouping}
use Rattle.plan_raw.specs.declared.aggregate.Measure.{Measure, roll-Measure}
use Rattle.plan_raw.specs.declared.aggregate.SortField.{SortField, roll-SortField}
use Rattle.plan_raw.specs.declared.argument.FunctionArgument.TheVariants as a
use Rattle.plan_raw.specs.declared.expr.RawExpr.{RawExpr}
use Rattle.plan_raw.specs.declared.expr.RawExpr.TheVariants as e
use Rattle.plan_raw.specs.declared.plan.PlanTree.{PlanTree}
use Rattle.plan_raw.specs.declared.rel.RawRel.{RawRel}
use Rattle.plan_raw.specs.declared.rel.RawRel.TheVariants as r
use Rattle.plan_raw.specs.declared.source.RawSource.TheVariants as source

-- a whole number of 64 bits, and a text, each of which may be null
abbrev pub whole_type : RawType
whole_type = t.I64 1

abbrev pub text_type : RawType
text_type = t.String 1

-- a file of functions among Substrait's
abbrev pub uri_of : List ℕ → List ℕ
uri_of file = codes "https://github.com/substrait-io/substrait/blob/main/extensions/" ++ file

abbrev pub uris : List UriDecl
uris =
    record { anchor = 1; uri = uri_of (codes "functions_comparison.yaml") }
    ∷ record { anchor = 2; uri = uri_of (codes "functions_arithmetic.yaml") }
    ∷ record { anchor = 3; uri = uri_of (codes "functions_aggregate_generic.yaml") }
    ∷ []

abbrev pub functions : List FunDecl
functions =
    record { uri = 1; anchor = 1; name = codes "equal:any_any" }
    ∷ record { uri = 2; anchor = 2; name = codes "sum:i64" }
    ∷ record { uri = 3; anchor = 3; name = codes "count:any" }
    ∷ []

-- a table by its name, and its columns
abbrev pub table : List ℕ → List (List ℕ) → List RawType → RawRel
table name names types =
    r.Read None (Some (record { names = names; struct_ = Some (record { types = types }) })) None None (source.NamedTable (record { names = name ∷ [] })) None

-- a column of the input
abbrev pub column : ℕ → RawExpr
column place = e.Selection (Some (record { struct_field = Some (record { field = pos place; child = false }) })) true false

abbrev pub line_names : List (List ℕ)
line_names = codes "oid" ∷ codes "qty" ∷ []

abbrev pub order_names : List (List ℕ)
order_names = codes "id" ∷ codes "region" ∷ []

abbrev pub lines : RawRel
lines = table (codes "lines") line_names (whole_type ∷ whole_type ∷ [])

abbrev pub orders : RawRel
orders = table (codes "orders") order_names (whole_type ∷ text_type ∷ [])

-- a line is of an order where it has its number
abbrev pub is_of_order : RawExpr
is_of_order = e.ScalarFunction 1 (Some (t.Bool 1)) (a.Value (column 0) ∷ a.Value (column 2) ∷ []) []

abbrev pub ordered_lines : RawRel
ordered_lines = r.Join None (Some lines) (Some orders) (Some is_of_order) None 1

-- a measure of the quantities
abbrev pub measure_of : ℕ → RawType → Measure
measure_of function ty = roll-Measure (record {
  measure = Some (roll-AggregateFunction (record {
    function_reference = function;
    sorts = [];
    phase = 3;
    output_type = Some ty;
    invocation = 1;
    arguments = a.Value (column 1) ∷ [];
    options = [];
  }));
  filter = None;
})

-- the sum of the quantities, and how many there are
abbrev pub measures : List Measure
measures = measure_of 2 (t.I64 1) ∷ measure_of 3 (t.I64 2) ∷ []

-- by region
abbrev pub groupings : List Grouping
groupings = roll-Grouping (record { grouping_expressions = column 3 ∷ []; expression_references = [] }) ∷ []

abbrev pub regions : RawRel
regions = r.Aggregate None (Some ordered_lines) groupings measures []

-- from the least region on, nulls first
abbrev pub sorts : List SortField
sorts = roll-SortField (record { expr = Some (column 0); direction = 1 }) ∷ []

abbrev pub ordered_regions : RawRel
ordered_regions = r.Sort None (Some regions) sorts

abbrev pub result_names : List (List ℕ)
result_names = codes "region" ∷ codes "sum" ∷ codes "count" ∷ []

unfoldable pub demo_tree : PlanTree
demo_tree = record { uris = uris; functions = functions; roots = record { is_root = true; input = Some ordered_regions; names = result_names } ∷ [] }
