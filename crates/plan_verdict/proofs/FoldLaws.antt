-- What a message is checked as, by what is inside it.
use Rattle.std.proofs.Common.{◌≡◌, ℕ, Bool, Option, Some, None, List, map, rules}
use Rattle.std.specs.Option.{option_map}
use Rattle.plan_leaves.specs.declared.common.RelCommon.{RelCommon}
use Rattle.plan_leaves.specs.declared.literal.RawLiteral.{RawLiteral}
use Rattle.plan_leaves.specs.declared.files.LocalFiles.{LocalFiles}
use Rattle.plan_leaves.specs.declared.mask.MaskExpression.{MaskExpression}
use Rattle.plan_leaves.specs.declared.options.FunctionOption.{FunctionOption}
use Rattle.plan_leaves.specs.declared.reference.ReferenceSegment.{ReferenceSegment}
use Rattle.plan_leaves.specs.declared.schema.NamedStruct.{NamedStruct}
use Rattle.plan_leaves.specs.declared.schema.NamedTable.{NamedTable}
use Rattle.plan_leaves.specs.declared.types.RawType.{RawType}
use Rattle.plan_raw.specs.declared.aggregate.AggregateFunction.{AggregateFunction, out-AggregateFunction}
use Rattle.plan_raw.specs.declared.aggregate.Grouping.{Grouping, out-Grouping}
use Rattle.plan_raw.specs.declared.aggregate.Measure.{Measure, out-Measure}
use Rattle.plan_raw.specs.declared.aggregate.SortField.{SortField, out-SortField}
use Rattle.plan_raw.specs.declared.argument.FunctionArgument.{FunctionArgument}
use Rattle.plan_raw.specs.declared.argument.FunctionArgument.TheVariants as a
use Rattle.plan_raw.specs.declared.expr.IfClause.{IfClause, out-IfClause}
use Rattle.plan_raw.specs.declared.expr.IfValue.{IfValue, out-IfValue}
use Rattle.plan_raw.specs.declared.expr.RawExpr.{RawExpr, RawExpr-F, the_lemmas}
use Rattle.plan_raw.specs.declared.expr.RawExpr.TheVariants as e
use Rattle.plan_raw.specs.declared.rel.RawCount.{RawCount}
use Rattle.plan_raw.specs.declared.rel.RawCount.TheVariants as c
use Rattle.plan_raw.specs.declared.rel.RawOffset.{RawOffset}
use Rattle.plan_raw.specs.declared.rel.RawOffset.TheVariants as o
use Rattle.plan_raw.specs.declared.rel.RawRel.{RawRel, RawRel-F}
use Rattle.plan_raw.specs.declared.rel.RawRel.TheVariants as r
use Rattle.plan_raw.specs.declared.source.ExprRow.{ExprRow, out-ExprRow}
use Rattle.plan_raw.specs.declared.source.RawSource.{RawSource, RawSource-F}
use Rattle.plan_raw.specs.declared.source.RawSource.TheVariants as s
use Rattle.plan_raw.specs.declared.source.VirtualTable.{VirtualTable, out-VirtualTable}
use Rattle.plan_verdict.specs.Aggregates.{measured, measure_in}
use Rattle.plan_verdict.specs.Amounts.{amount_of}
use Rattle.plan_verdict.specs.Exprs.{Terms, expression, if_clause}
use Rattle.plan_verdict.specs.Reads.{rows_in, source_in}
use Rattle.plan_verdict.specs.Rels.{sort_key}
use Rattle.plan_verdict.specs.Verdict.{member, checked_argument, checked_expr, checked_count, checked_offset, checked_rel, checked_source, checked_function, checked_grouping, checked_measure, checked_sort, checked_clause, checked_arm, checked_row, checked_table}

pub checked_expr-Literal : (terms : Terms) (raw : RawLiteral) → checked_expr terms (e.Literal raw) ≡ expression terms (RawExpr-F.Literal raw)
unfolding checked_expr
checked_expr-Literal terms raw = search (rules, the_lemmas)

pub checked_expr-Selection : (terms : Terms) (direct : Option ReferenceSegment) (root : Bool) (other : Bool) → checked_expr terms (e.Selection direct root other) ≡ expression terms (RawExpr-F.Selection direct root other)
unfolding checked_expr
checked_expr-Selection terms direct root other = search (rules, the_lemmas)

pub checked_expr-ScalarFunction : (terms : Terms) (reference : ℕ) (output : Option RawType) (written : List FunctionArgument) (options : List FunctionOption) → checked_expr terms (e.ScalarFunction reference output written options) ≡ expression terms (RawExpr-F.ScalarFunction reference output (map (checked_argument terms) written) options)
unfolding checked_argument checked_expr
checked_expr-ScalarFunction terms reference output written options = search (rules, the_lemmas)

pub checked_expr-IfThen : (terms : Terms) (ifs : List IfClause) (other : Option RawExpr) → checked_expr terms (e.IfThen ifs other) ≡ expression terms (RawExpr-F.IfThen (map (checked_clause terms) ifs) (option_map (checked_expr terms) other))
unfolding checked_clause checked_expr
checked_expr-IfThen terms ifs None = search (rules, the_lemmas)
checked_expr-IfThen terms ifs (Some other) = search (rules, the_lemmas)

pub checked_expr-SwitchExpression : (terms : Terms) (ifs : List IfValue) (other : Option RawExpr) (match : Option RawExpr) → checked_expr terms (e.SwitchExpression ifs other match) ≡ expression terms (RawExpr-F.SwitchExpression (map (checked_arm terms) ifs) (option_map (checked_expr terms) other) (option_map (checked_expr terms) match))
unfolding checked_arm checked_expr
checked_expr-SwitchExpression terms ifs None None = search (rules, the_lemmas)
checked_expr-SwitchExpression terms ifs None (Some match) = search (rules, the_lemmas)
checked_expr-SwitchExpression terms ifs (Some other) None = search (rules, the_lemmas)
checked_expr-SwitchExpression terms ifs (Some other) (Some match) = search (rules, the_lemmas)

pub checked_expr-SingularOrList : (terms : Terms) (value : Option RawExpr) (options : List RawExpr) → checked_expr terms (e.SingularOrList value options) ≡ expression terms (RawExpr-F.SingularOrList (option_map (checked_expr terms) value) (map (checked_expr terms) options))
unfolding checked_expr
checked_expr-SingularOrList terms None options = search (rules, the_lemmas)
checked_expr-SingularOrList terms (Some value) options = search (rules, the_lemmas)

pub checked_expr-Cast : (terms : Terms) (type : Option RawType) (input : Option RawExpr) (failure : ℕ) → checked_expr terms (e.Cast type input failure) ≡ expression terms (RawExpr-F.Cast type (option_map (checked_expr terms) input) failure)
unfolding checked_expr
checked_expr-Cast terms type None failure = search (rules, the_lemmas)
checked_expr-Cast terms type (Some input) failure = search (rules, the_lemmas)

pub checked_expr-Scalar : (terms : Terms) (input : Option RawRel) → checked_expr terms (e.Scalar input) ≡ expression terms (RawExpr-F.Scalar (option_map (checked_rel terms) input))
unfolding checked_expr checked_rel
checked_expr-Scalar terms None = search (rules, the_lemmas)
checked_expr-Scalar terms (Some input) = search (rules, the_lemmas)

pub checked_expr-InPredicate : (terms : Terms) (needles : List RawExpr) (haystack : Option RawRel) → checked_expr terms (e.InPredicate needles haystack) ≡ expression terms (RawExpr-F.InPredicate (map (checked_expr terms) needles) (option_map (checked_rel terms) haystack))
unfolding checked_expr checked_rel
checked_expr-InPredicate terms needles None = search (rules, the_lemmas)
checked_expr-InPredicate terms needles (Some haystack) = search (rules, the_lemmas)

pub checked_expr-SetPredicate : (terms : Terms) (predicate : ℕ) (tuples : Option RawRel) → checked_expr terms (e.SetPredicate predicate tuples) ≡ expression terms (RawExpr-F.SetPredicate predicate (option_map (checked_rel terms) tuples))
unfolding checked_expr checked_rel
checked_expr-SetPredicate terms predicate None = search (rules, the_lemmas)
checked_expr-SetPredicate terms predicate (Some tuples) = search (rules, the_lemmas)

pub checked_rel-Read : (terms : Terms) (common : Option RelCommon) (schema : Option NamedStruct) (filter : Option RawExpr) (projection : Option MaskExpression) (source : RawSource) (hint : Option RawExpr) → checked_rel terms (r.Read common schema filter projection source hint) ≡ member (RawRel-F.Read common schema (option_map (checked_expr terms) filter) projection (checked_source terms source) (option_map (checked_expr terms) hint))
unfolding checked_expr checked_rel checked_source
checked_rel-Read terms common schema None projection source None = search (rules, the_lemmas)
checked_rel-Read terms common schema None projection source (Some hint) = search (rules, the_lemmas)
checked_rel-Read terms common schema (Some filter) projection source None = search (rules, the_lemmas)
checked_rel-Read terms common schema (Some filter) projection source (Some hint) = search (rules, the_lemmas)

pub checked_rel-Filter : (terms : Terms) (common : Option RelCommon) (input : Option RawRel) (condition : Option RawExpr) → checked_rel terms (r.Filter common input condition) ≡ member (RawRel-F.Filter common (option_map (checked_rel terms) input) (option_map (checked_expr terms) condition))
unfolding checked_expr checked_rel
checked_rel-Filter terms common None None = search (rules, the_lemmas)
checked_rel-Filter terms common None (Some condition) = search (rules, the_lemmas)
checked_rel-Filter terms common (Some input) None = search (rules, the_lemmas)
checked_rel-Filter terms common (Some input) (Some condition) = search (rules, the_lemmas)

pub checked_rel-Fetch : (terms : Terms) (common : Option RelCommon) (input : Option RawRel) (offset : RawOffset) (count : RawCount) → checked_rel terms (r.Fetch common input offset count) ≡ member (RawRel-F.Fetch common (option_map (checked_rel terms) input) (checked_offset terms offset) (checked_count terms count))
unfolding checked_count checked_offset checked_rel
checked_rel-Fetch terms common None offset count = search (rules, the_lemmas)
checked_rel-Fetch terms common (Some input) offset count = search (rules, the_lemmas)

pub checked_rel-Aggregate : (terms : Terms) (common : Option RelCommon) (input : Option RawRel) (groupings : List Grouping) (measures : List Measure) (expressions : List RawExpr) → checked_rel terms (r.Aggregate common input groupings measures expressions) ≡ member (RawRel-F.Aggregate common (option_map (checked_rel terms) input) (map (checked_grouping terms) groupings) (map (checked_measure terms) measures) (map (checked_expr terms) expressions))
unfolding checked_expr checked_grouping checked_measure checked_rel
checked_rel-Aggregate terms common None groupings measures expressions = search (rules, the_lemmas)
checked_rel-Aggregate terms common (Some input) groupings measures expressions = search (rules, the_lemmas)

pub checked_rel-Sort : (terms : Terms) (common : Option RelCommon) (input : Option RawRel) (sorts : List SortField) → checked_rel terms (r.Sort common input sorts) ≡ member (RawRel-F.Sort common (option_map (checked_rel terms) input) (map (checked_sort terms) sorts))
unfolding checked_rel checked_sort
checked_rel-Sort terms common None sorts = search (rules, the_lemmas)
checked_rel-Sort terms common (Some input) sorts = search (rules, the_lemmas)

pub checked_rel-Join : (terms : Terms) (common : Option RelCommon) (left : Option RawRel) (right : Option RawRel) (expression : Option RawExpr) (post : Option RawExpr) (type : ℕ) → checked_rel terms (r.Join common left right expression post type) ≡ member (RawRel-F.Join common (option_map (checked_rel terms) left) (option_map (checked_rel terms) right) (option_map (checked_expr terms) expression) (option_map (checked_expr terms) post) type)
unfolding checked_expr checked_rel
checked_rel-Join terms common None None None None type = search (rules, the_lemmas)
checked_rel-Join terms common None None None (Some post) type = search (rules, the_lemmas)
checked_rel-Join terms common None None (Some expression) None type = search (rules, the_lemmas)
checked_rel-Join terms common None None (Some expression) (Some post) type = search (rules, the_lemmas)
checked_rel-Join terms common None (Some right) None None type = search (rules, the_lemmas)
checked_rel-Join terms common None (Some right) None (Some post) type = search (rules, the_lemmas)
checked_rel-Join terms common None (Some right) (Some expression) None type = search (rules, the_lemmas)
checked_rel-Join terms common None (Some right) (Some expression) (Some post) type = search (rules, the_lemmas)
checked_rel-Join terms common (Some left) None None None type = search (rules, the_lemmas)
checked_rel-Join terms common (Some left) None None (Some post) type = search (rules, the_lemmas)
checked_rel-Join terms common (Some left) None (Some expression) None type = search (rules, the_lemmas)
checked_rel-Join terms common (Some left) None (Some expression) (Some post) type = search (rules, the_lemmas)
checked_rel-Join terms common (Some left) (Some right) None None type = search (rules, the_lemmas)
checked_rel-Join terms common (Some left) (Some right) None (Some post) type = search (rules, the_lemmas)
checked_rel-Join terms common (Some left) (Some right) (Some expression) None type = search (rules, the_lemmas)
checked_rel-Join terms common (Some left) (Some right) (Some expression) (Some post) type = search (rules, the_lemmas)

pub checked_rel-Project : (terms : Terms) (common : Option RelCommon) (input : Option RawRel) (expressions : List RawExpr) → checked_rel terms (r.Project common input expressions) ≡ member (RawRel-F.Project common (option_map (checked_rel terms) input) (map (checked_expr terms) expressions))
unfolding checked_expr checked_rel
checked_rel-Project terms common None expressions = search (rules, the_lemmas)
checked_rel-Project terms common (Some input) expressions = search (rules, the_lemmas)

pub checked_rel-Set : (terms : Terms) (common : Option RelCommon) (inputs : List RawRel) (op : ℕ) → checked_rel terms (r.Set common inputs op) ≡ member (RawRel-F.Set common (map (checked_rel terms) inputs) op)
unfolding checked_rel
checked_rel-Set terms common inputs op = search (rules, the_lemmas)

pub checked_rel-Cross : (terms : Terms) (common : Option RelCommon) (left : Option RawRel) (right : Option RawRel) → checked_rel terms (r.Cross common left right) ≡ member (RawRel-F.Cross common (option_map (checked_rel terms) left) (option_map (checked_rel terms) right))
unfolding checked_rel
checked_rel-Cross terms common None None = search (rules, the_lemmas)
checked_rel-Cross terms common None (Some right) = search (rules, the_lemmas)
checked_rel-Cross terms common (Some left) None = search (rules, the_lemmas)
checked_rel-Cross terms common (Some left) (Some right) = search (rules, the_lemmas)

pub checked_argument-Value : (terms : Terms) (value : RawExpr) → checked_argument terms (a.Value value) ≡ Some (checked_expr terms value)
unfolding checked_argument checked_expr
checked_argument-Value terms value = search (rules, the_lemmas)

pub checked_source-VirtualTable : (terms : Terms) (table : VirtualTable) → checked_source terms (s.VirtualTable table) ≡ source_in (RawSource-F.VirtualTable (checked_table terms table))
unfolding checked_source checked_table
checked_source-VirtualTable terms table = search (rules, the_lemmas)

pub checked_source-LocalFiles : (terms : Terms) (files : LocalFiles) → checked_source terms (s.LocalFiles files) ≡ source_in (RawSource-F.LocalFiles files)
unfolding checked_source
checked_source-LocalFiles terms files = search (rules, the_lemmas)

pub checked_source-NamedTable : (terms : Terms) (table : NamedTable) → checked_source terms (s.NamedTable table) ≡ source_in (RawSource-F.NamedTable table)
unfolding checked_source
checked_source-NamedTable terms table = search (rules, the_lemmas)

pub checked_offset-OffsetExpr : (terms : Terms) (expr : RawExpr) → checked_offset terms (o.OffsetExpr expr) ≡ amount_of (checked_expr terms expr).literal
unfolding checked_offset checked_expr
checked_offset-OffsetExpr terms expr = search (rules, the_lemmas)

pub checked_count-CountExpr : (terms : Terms) (expr : RawExpr) → checked_count terms (c.CountExpr expr) ≡ amount_of (checked_expr terms expr).literal
unfolding checked_count checked_expr
checked_count-CountExpr terms expr = search (rules, the_lemmas)

pub checked_clause-out : (terms : Terms) (one : IfClause) → checked_clause terms one ≡ if_clause (option_map (checked_expr terms) (out-IfClause one).if_) (option_map (checked_expr terms) (out-IfClause one).«then»)
unfolding checked_clause checked_expr
checked_clause-out terms one = search (rules, the_lemmas)

pub checked_arm-out : (terms : Terms) (one : IfValue) → checked_arm terms one ≡ record { literal = (out-IfValue one).if_; value = option_map (checked_expr terms) (out-IfValue one).«then» }
unfolding checked_arm checked_expr
checked_arm-out terms one = search (rules, the_lemmas)

pub checked_sort-out : (terms : Terms) (one : SortField) → checked_sort terms one ≡ sort_key (option_map (checked_expr terms) (out-SortField one).expr) (out-SortField one).direction
unfolding checked_sort checked_expr
checked_sort-out terms one = search (rules, the_lemmas)

pub checked_row-out : (terms : Terms) (one : ExprRow) → checked_row terms one ≡ map (checked_expr terms) (out-ExprRow one).fields
unfolding checked_row checked_expr
checked_row-out terms one = search (rules, the_lemmas)

pub checked_table-out : (terms : Terms) (one : VirtualTable) → checked_table terms one ≡ rows_in (out-VirtualTable one).values (map (checked_row terms) (out-VirtualTable one).expressions)
unfolding checked_table checked_row
checked_table-out terms one = search (rules, the_lemmas)

pub checked_grouping-out : (terms : Terms) (one : Grouping) → checked_grouping terms one ≡ record { expressions = map (checked_expr terms) (out-Grouping one).grouping_expressions; references = (out-Grouping one).expression_references }
unfolding checked_grouping checked_expr
checked_grouping-out terms one = search (rules, the_lemmas)

pub checked_measure-out : (terms : Terms) (one : Measure) → checked_measure terms one ≡ measure_in (option_map (checked_function terms) (out-Measure one).measure) (option_map (checked_expr terms) (out-Measure one).filter)
unfolding checked_measure checked_function checked_expr
checked_measure-out terms one = search (rules, the_lemmas)

pub checked_function-check : (terms : Terms) (one : AggregateFunction) → (checked_function terms one).check ≡ measured terms (out-AggregateFunction one).function_reference (out-AggregateFunction one).output_type (map (checked_argument terms) (out-AggregateFunction one).arguments) (out-AggregateFunction one).options
unfolding checked_function checked_argument
checked_function-check terms one = search (rules, the_lemmas)

-- messages without others inside them
pub checked_expr-Missing : (terms : Terms) → checked_expr terms e.Missing ≡ expression terms RawExpr-F.«RawExpr::Missing»
unfolding checked_expr
checked_expr-Missing terms = search (rules, the_lemmas)

pub checked_expr-Unknown : (terms : Terms) (number : ℕ) → checked_expr terms (e.Unknown number) ≡ expression terms (RawExpr-F.«RawExpr::Unknown» number)
unfolding checked_expr
checked_expr-Unknown terms number = search (rules, the_lemmas)

pub checked_expr-SubqueryMissing : (terms : Terms) → checked_expr terms e.SubqueryMissing ≡ expression terms RawExpr-F.SubqueryMissing
unfolding checked_expr
checked_expr-SubqueryMissing terms = search (rules, the_lemmas)

pub checked_expr-SubqueryUnknown : (terms : Terms) (number : ℕ) → checked_expr terms (e.SubqueryUnknown number) ≡ expression terms (RawExpr-F.SubqueryUnknown number)
unfolding checked_expr
checked_expr-SubqueryUnknown terms number = search (rules, the_lemmas)

pub checked_expr-SetComparison : (terms : Terms) → checked_expr terms e.SetComparison ≡ expression terms RawExpr-F.SetComparison
unfolding checked_expr
checked_expr-SetComparison terms = search (rules, the_lemmas)

pub checked_rel-Missing : (terms : Terms) → checked_rel terms r.Missing ≡ member RawRel-F.«RawRel::Missing»
unfolding checked_rel
checked_rel-Missing terms = search (rules, the_lemmas)

pub checked_rel-Unknown : (terms : Terms) (number : ℕ) → checked_rel terms (r.Unknown number) ≡ member (RawRel-F.«RawRel::Unknown» number)
unfolding checked_rel
checked_rel-Unknown terms number = search (rules, the_lemmas)

pub checked_argument-Missing : (terms : Terms) → checked_argument terms a.Missing ≡ None
unfolding checked_argument
checked_argument-Missing terms = search (rules, the_lemmas)

pub checked_argument-Enum : (terms : Terms) (name : List ℕ) → checked_argument terms (a.Enum name) ≡ None
unfolding checked_argument
checked_argument-Enum terms name = search (rules, the_lemmas)

pub checked_argument-TypeArgument : (terms : Terms) (type : RawType) → checked_argument terms (a.TypeArgument type) ≡ None
unfolding checked_argument
checked_argument-TypeArgument terms type = search (rules, the_lemmas)

pub checked_source-Missing : (terms : Terms) → checked_source terms s.Missing ≡ source_in RawSource-F.«RawSource::Missing»
unfolding checked_source
checked_source-Missing terms = search (rules, the_lemmas)
