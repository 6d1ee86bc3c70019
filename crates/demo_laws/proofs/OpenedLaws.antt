-- The messages of the demo's plan, opened by one level.
use Rattle.std.proofs.Common.{◌≡◌, ◌∙◌, ℕ, pos, List, [], ◌∷◌, true, false, Some, None, sym, ap}
use Rattle.plan_leaves.specs.declared.reference.ReferenceSegment.{ReferenceSegment}
use Rattle.plan_leaves.specs.declared.schema.NamedStruct.{NamedStruct}
use Rattle.plan_leaves.specs.declared.schema.NamedTable.{NamedTable}
use Rattle.plan_leaves.specs.declared.types.RawType.{RawType, RawType-F, out-RawType, out-roll-RawType}
use Rattle.plan_leaves.specs.declared.types.RawType.TheVariants as t
use Rattle.plan_raw.specs.declared.aggregate.AggregateFunction.{AggregateFunction, AggregateFunction-F, roll-AggregateFunction, out-AggregateFunction, out-roll-AggregateFunction}
use Rattle.plan_raw.specs.declared.aggregate.Grouping.{Grouping, Grouping-F, roll-Grouping, out-Grouping, out-roll-Grouping}
use Rattle.plan_raw.specs.declared.aggregate.Measure.{Measure-F, out-Measure, out-roll-Measure}
use Rattle.plan_raw.specs.declared.aggregate.SortField.{SortField, SortField-F, roll-SortField, out-SortField, out-roll-SortField}
use Rattle.plan_raw.specs.declared.argument.FunctionArgument.{FunctionArgument, FunctionArgument-F, out-FunctionArgument, out-roll-FunctionArgument}
use Rattle.plan_raw.specs.declared.argument.FunctionArgument.TheVariants as a
use Rattle.plan_raw.specs.declared.expr.RawExpr.{RawExpr-F, out-RawExpr, out-roll-RawExpr}
use Rattle.plan_raw.specs.declared.expr.RawExpr.TheVariants as e
use Rattle.plan_raw.specs.declared.rel.RawRel.{RawRel-F, out-RawRel, out-roll-RawRel}
use Rattle.plan_raw.specs.declared.rel.RawRel.TheVariants as r
use Rattle.plan_raw.specs.declared.source.RawSource.{RawSource-F, out-RawSource, out-roll-RawSource}
use Rattle.plan_raw.specs.declared.source.RawSource.TheVariants as source
use Rattle.plan_tree.specs.Fold.{Opened}
use Rattle.gen_data.specs.Plan as raw

-- types
pub out_whole : (nullability : ℕ) → out-RawType (t.I64 nullability) ≡ RawType-F.I64 nullability
out_whole nullability = ap out-RawType (sym (t.rolls-I64 nullability)) ∙ out-roll-RawType (RawType-F.I64 nullability)

pub out_text : (nullability : ℕ) → out-RawType (t.String nullability) ≡ RawType-F.String nullability
out_text nullability = ap out-RawType (sym (t.rolls-String nullability)) ∙ out-roll-RawType (RawType-F.String nullability)

pub out_truth : (nullability : ℕ) → out-RawType (t.Bool nullability) ≡ RawType-F.Bool nullability
out_truth nullability = ap out-RawType (sym (t.rolls-Bool nullability)) ∙ out-roll-RawType (RawType-F.Bool nullability)

-- a column of the input, as an argument too
abbrev pub segment : ℕ → ReferenceSegment
segment place = record { struct_field = Some (record { field = pos place; child = false }) }

pub out_column : (place : ℕ) → out-RawExpr (raw.column place) ≡ RawExpr-F.Selection (Some (segment place)) true false
out_column place = ap out-RawExpr (sym (e.rolls-Selection (Some (segment place)) true false)) ∙ out-roll-RawExpr (RawExpr-F.Selection (Some (segment place)) true false)

abbrev pub argument : ℕ → FunctionArgument
argument place = a.Value (raw.column place)

pub out_argument : (place : ℕ) → out-FunctionArgument (argument place) ≡ FunctionArgument-F.Value (raw.column place)
out_argument place = ap out-FunctionArgument (sym (a.rolls-Value (raw.column place))) ∙ out-roll-FunctionArgument (FunctionArgument-F.Value (raw.column place))

abbrev pub both : List FunctionArgument
both = argument 0 ∷ argument 2 ∷ []

pub out_is_of_order : out-RawExpr raw.is_of_order ≡ RawExpr-F.ScalarFunction 1 (Some (t.Bool 1)) both []
out_is_of_order = ap out-RawExpr (sym (e.rolls-ScalarFunction 1 (Some (t.Bool 1)) both [])) ∙ out-roll-RawExpr (RawExpr-F.ScalarFunction 1 (Some (t.Bool 1)) both [])

-- tables
abbrev pub schema : List (List ℕ) → List RawType → NamedStruct
schema names types = record { names = names; struct_ = Some (record { types = types }) }

abbrev pub named : List ℕ → NamedTable
named name = record { names = name ∷ [] }

pub out_source : (name : List ℕ) → out-RawSource (source.NamedTable (named name)) ≡ RawSource-F.NamedTable (named name)
out_source name = ap out-RawSource (sym (source.rolls-NamedTable (named name))) ∙ out-roll-RawSource (RawSource-F.NamedTable (named name))

pub out_table : (name : List ℕ) (names : List (List ℕ)) (types : List RawType) → out-RawRel (raw.table name names types) ≡ RawRel-F.Read None (Some (schema names types)) None None (source.NamedTable (named name)) None
out_table name names types =
    ap out-RawRel (sym (r.rolls-Read None (Some (schema names types)) None None (source.NamedTable (named name)) None))
    ∙ out-roll-RawRel (RawRel-F.Read None (Some (schema names types)) None None (source.NamedTable (named name)) None)

-- the lines joined to their orders
pub out_join : out-RawRel raw.ordered_lines ≡ RawRel-F.Join None (Some raw.lines) (Some raw.orders) (Some raw.is_of_order) None 1
out_join =
    ap out-RawRel (sym (r.rolls-Join None (Some raw.lines) (Some raw.orders) (Some raw.is_of_order) None 1))
    ∙ out-roll-RawRel (RawRel-F.Join None (Some raw.lines) (Some raw.orders) (Some raw.is_of_order) None 1)

-- by region: the sum and the count of the quantities
abbrev pub by_region : Opened Grouping-F
by_region = record { grouping_expressions = raw.column 3 ∷ []; expression_references = [] }

abbrev pub grouping : Grouping
grouping = roll-Grouping by_region

pub out_grouping : out-Grouping grouping ≡ by_region
out_grouping = out-roll-Grouping by_region

abbrev pub function_level : ℕ → RawType → Opened AggregateFunction-F
function_level function ty = record { function_reference = function; sorts = []; phase = 3; output_type = Some ty; invocation = 1; arguments = argument 1 ∷ []; options = [] }

abbrev pub function_of : ℕ → RawType → AggregateFunction
function_of function ty = roll-AggregateFunction (function_level function ty)

pub out_function : (function : ℕ) (ty : RawType) → out-AggregateFunction (function_of function ty) ≡ function_level function ty
out_function function ty = out-roll-AggregateFunction (function_level function ty)

abbrev pub measure_level : ℕ → RawType → Opened Measure-F
measure_level function ty = record { measure = Some (function_of function ty); filter = None }

pub out_measure : (function : ℕ) (ty : RawType) → out-Measure (raw.measure_of function ty) ≡ measure_level function ty
out_measure function ty = out-roll-Measure (measure_level function ty)

pub out_regions : out-RawRel raw.regions ≡ RawRel-F.Aggregate None (Some raw.ordered_lines) (grouping ∷ []) (raw.measure_of 2 (t.I64 1) ∷ raw.measure_of 3 (t.I64 2) ∷ []) []
out_regions =
    ap out-RawRel (sym (r.rolls-Aggregate None (Some raw.ordered_lines) (grouping ∷ []) (raw.measure_of 2 (t.I64 1) ∷ raw.measure_of 3 (t.I64 2) ∷ []) []))
    ∙ out-roll-RawRel (RawRel-F.Aggregate None (Some raw.ordered_lines) (grouping ∷ []) (raw.measure_of 2 (t.I64 1) ∷ raw.measure_of 3 (t.I64 2) ∷ []) [])

-- the regions from the least on
abbrev pub key_level : Opened SortField-F
key_level = record { expr = Some (raw.column 0); direction = 1 }

abbrev pub key : SortField
key = roll-SortField key_level

pub out_key : out-SortField key ≡ key_level
out_key = out-roll-SortField key_level

pub out_sorted : out-RawRel raw.ordered_regions ≡ RawRel-F.Sort None (Some raw.regions) (key ∷ [])
out_sorted = ap out-RawRel (sym (r.rolls-Sort None (Some raw.regions) (key ∷ []))) ∙ out-roll-RawRel (RawRel-F.Sort None (Some raw.regions) (key ∷ []))
