-- One level of a message, with what is known of each message inside it beside that message.
use Rattle.std.proofs.Common.{◌≡◌, ℕ, List, [], ◌∷◌, Option, Some, None, map, refl}
use Rattle.std.specs.Option.{option_map}
use Rattle.std.specs.List.{AllByRecursion}
use Rattle.plan_raw.specs.declared.aggregate.AggregateFunction.{AggregateFunction, AggregateFunction-F, map-AggregateFunction}
use Rattle.plan_raw.specs.declared.aggregate.Grouping.{Grouping, Grouping-F, map-Grouping}
use Rattle.plan_raw.specs.declared.aggregate.Measure.{Measure, Measure-F, map-Measure}
use Rattle.plan_raw.specs.declared.aggregate.SortField.{SortField, SortField-F, map-SortField}
use Rattle.plan_raw.specs.declared.argument.FunctionArgument.{FunctionArgument, FunctionArgument-F, map-FunctionArgument}
use Rattle.plan_raw.specs.declared.expr.IfClause.{IfClause, IfClause-F, map-IfClause}
use Rattle.plan_raw.specs.declared.expr.IfValue.{IfValue, IfValue-F, map-IfValue}
use Rattle.plan_raw.specs.declared.expr.RawExpr.{RawExpr, RawExpr-F, map-RawExpr}
use Rattle.plan_raw.specs.declared.rel.RawCount.{RawCount, RawCount-F, map-RawCount}
use Rattle.plan_raw.specs.declared.rel.RawOffset.{RawOffset, RawOffset-F, map-RawOffset}
use Rattle.plan_raw.specs.declared.rel.RawRel.{RawRel, RawRel-F, map-RawRel}
use Rattle.plan_raw.specs.declared.source.ExprRow.{ExprRow, ExprRow-F, map-ExprRow}
use Rattle.plan_raw.specs.declared.source.RawSource.{RawSource, RawSource-F, map-RawSource}
use Rattle.plan_raw.specs.declared.source.VirtualTable.{VirtualTable, VirtualTable-F, map-VirtualTable}
use Rattle.plan_leaves.specs.declared.common.RelCommon.{RelCommon}
use Rattle.plan_leaves.specs.declared.literal.RawLiteral.{RawLiteral}
use Rattle.plan_leaves.specs.declared.mask.MaskExpression.{MaskExpression}
use Rattle.plan_leaves.specs.declared.schema.NamedStruct.{NamedStruct}
use Rattle.plan_leaves.specs.declared.types.RawType.{RawType}
use Rattle.plan_tree.specs.Fold.{Level, Opened}
use Rattle.well_typed.specs.WellTyped.{MayBe}

-- what is known of each message
pub record Claims : Type 1 where
  pub argument : FunctionArgument → Type 0
  pub expr : RawExpr → Type 0
  pub count : RawCount → Type 0
  pub offset : RawOffset → Type 0
  pub rel : RawRel → Type 0
  pub source : RawSource → Type 0
  pub function : AggregateFunction → Type 0
  pub grouping : Grouping → Type 0
  pub measure : Measure → Type 0
  pub sort : SortField → Type 0
  pub clause : IfClause → Type 0
  pub value : IfValue → Type 0
  pub row : ExprRow → Type 0
  pub table : VirtualTable → Type 0

-- a message with what is known of it
abbrev pub With : {A : Type 0} → (A → Type 0) → Type 0
With {A} P = (one : A) × P one

-- one level with such messages inside it
abbrev pub Shown : Claims → Level → Type 0
Shown claims Message =
    Message (With claims.argument) (With claims.expr) (With claims.count) (With claims.offset) (With claims.rel) (With claims.source) (With claims.function) (With claims.grouping) (With claims.measure) (With claims.sort) (With claims.clause) (With claims.value) (With claims.row) (With claims.table)

-- what is known of each, of the messages alone
pub maybe_first : {A B : Type 0} (P : A → Type 0) (Q : B → Type 0) (f : A → B) (written : Option (With P)) → ((one : A) → P one → Q (f one)) → MayBe Q (option_map f (option_map (λ one. one.0) written))
maybe_first P Q f (Some one) k = k one.0 one.1
maybe_first P Q f None k = tt

pub all_first : {A B : Type 0} (P : A → Type 0) (Q : B → Type 0) (f : A → B) (written : List (With P)) → ((one : A) → P one → Q (f one)) → AllByRecursion Q (map f (map (λ one. one.0) written))
all_first P Q f [] k = tt
all_first P Q f (one ∷ rest) k = (k one.0 one.1, all_first P Q f rest k)

module _ (claims : Claims) where
  -- the messages alone
  abbrev pub first_argument : Shown claims FunctionArgument-F → Opened FunctionArgument-F
  first_argument =
      map-FunctionArgument (With claims.argument) (With claims.expr) (With claims.count) (With claims.offset) (With claims.rel) (With claims.source) (With claims.function) (With claims.grouping) (With claims.measure) (With claims.sort) (With claims.clause) (With claims.value) (With claims.row) (With claims.table)
      FunctionArgument RawExpr RawCount RawOffset RawRel RawSource AggregateFunction Grouping Measure SortField IfClause IfValue ExprRow VirtualTable
      (λ one. one.0) (λ one. one.0) (λ one. one.0) (λ one. one.0) (λ one. one.0) (λ one. one.0) (λ one. one.0) (λ one. one.0) (λ one. one.0) (λ one. one.0) (λ one. one.0) (λ one. one.0) (λ one. one.0) (λ one. one.0)

  abbrev pub first_expr : Shown claims RawExpr-F → Opened RawExpr-F
  first_expr =
      map-RawExpr (With claims.argument) (With claims.expr) (With claims.count) (With claims.offset) (With claims.rel) (With claims.source) (With claims.function) (With claims.grouping) (With claims.measure) (With claims.sort) (With claims.clause) (With claims.value) (With claims.row) (With claims.table)
      FunctionArgument RawExpr RawCount RawOffset RawRel RawSource AggregateFunction Grouping Measure SortField IfClause IfValue ExprRow VirtualTable
      (λ one. one.0) (λ one. one.0) (λ one. one.0) (λ one. one.0) (λ one. one.0) (λ one. one.0) (λ one. one.0) (λ one. one.0) (λ one. one.0) (λ one. one.0) (λ one. one.0) (λ one. one.0) (λ one. one.0) (λ one. one.0)

  abbrev pub first_count : Shown claims RawCount-F → Opened RawCount-F
  first_count =
      map-RawCount (With claims.argument) (With claims.expr) (With claims.count) (With claims.offset) (With claims.rel) (With claims.source) (With claims.function) (With claims.grouping) (With claims.measure) (With claims.sort) (With claims.clause) (With claims.value) (With claims.row) (With claims.table)
      FunctionArgument RawExpr RawCount RawOffset RawRel RawSource AggregateFunction Grouping Measure SortField IfClause IfValue ExprRow VirtualTable
      (λ one. one.0) (λ one. one.0) (λ one. one.0) (λ one. one.0) (λ one. one.0) (λ one. one.0) (λ one. one.0) (λ one. one.0) (λ one. one.0) (λ one. one.0) (λ one. one.0) (λ one. one.0) (λ one. one.0) (λ one. one.0)

  abbrev pub first_offset : Shown claims RawOffset-F → Opened RawOffset-F
  first_offset =
      map-RawOffset (With claims.argument) (With claims.expr) (With claims.count) (With claims.offset) (With claims.rel) (With claims.source) (With claims.function) (With claims.grouping) (With claims.measure) (With claims.sort) (With claims.clause) (With claims.value) (With claims.row) (With claims.table)
      FunctionArgument RawExpr RawCount RawOffset RawRel RawSource AggregateFunction Grouping Measure SortField IfClause IfValue ExprRow VirtualTable
      (λ one. one.0) (λ one. one.0) (λ one. one.0) (λ one. one.0) (λ one. one.0) (λ one. one.0) (λ one. one.0) (λ one. one.0) (λ one. one.0) (λ one. one.0) (λ one. one.0) (λ one. one.0) (λ one. one.0) (λ one. one.0)

  abbrev pub first_rel : Shown claims RawRel-F → Opened RawRel-F
  first_rel =
      map-RawRel (With claims.argument) (With claims.expr) (With claims.count) (With claims.offset) (With claims.rel) (With claims.source) (With claims.function) (With claims.grouping) (With claims.measure) (With claims.sort) (With claims.clause) (With claims.value) (With claims.row) (With claims.table)
      FunctionArgument RawExpr RawCount RawOffset RawRel RawSource AggregateFunction Grouping Measure SortField IfClause IfValue ExprRow VirtualTable
      (λ one. one.0) (λ one. one.0) (λ one. one.0) (λ one. one.0) (λ one. one.0) (λ one. one.0) (λ one. one.0) (λ one. one.0) (λ one. one.0) (λ one. one.0) (λ one. one.0) (λ one. one.0) (λ one. one.0) (λ one. one.0)

  abbrev pub first_source : Shown claims RawSource-F → Opened RawSource-F
  first_source =
      map-RawSource (With claims.argument) (With claims.expr) (With claims.count) (With claims.offset) (With claims.rel) (With claims.source) (With claims.function) (With claims.grouping) (With claims.measure) (With claims.sort) (With claims.clause) (With claims.value) (With claims.row) (With claims.table)
      FunctionArgument RawExpr RawCount RawOffset RawRel RawSource AggregateFunction Grouping Measure SortField IfClause IfValue ExprRow VirtualTable
      (λ one. one.0) (λ one. one.0) (λ one. one.0) (λ one. one.0) (λ one. one.0) (λ one. one.0) (λ one. one.0) (λ one. one.0) (λ one. one.0) (λ one. one.0) (λ one. one.0) (λ one. one.0) (λ one. one.0) (λ one. one.0)

  abbrev pub first_function : Shown claims AggregateFunction-F → Opened AggregateFunction-F
  first_function =
      map-AggregateFunction (With claims.argument) (With claims.expr) (With claims.count) (With claims.offset) (With claims.rel) (With claims.source) (With claims.function) (With claims.grouping) (With claims.measure) (With claims.sort) (With claims.clause) (With claims.value) (With claims.row) (With claims.table)
      FunctionArgument RawExpr RawCount RawOffset RawRel RawSource AggregateFunction Grouping Measure SortField IfClause IfValue ExprRow VirtualTable
      (λ one. one.0) (λ one. one.0) (λ one. one.0) (λ one. one.0) (λ one. one.0) (λ one. one.0) (λ one. one.0) (λ one. one.0) (λ one. one.0) (λ one. one.0) (λ one. one.0) (λ one. one.0) (λ one. one.0) (λ one. one.0)

  abbrev pub first_grouping : Shown claims Grouping-F → Opened Grouping-F
  first_grouping =
      map-Grouping (With claims.argument) (With claims.expr) (With claims.count) (With claims.offset) (With claims.rel) (With claims.source) (With claims.function) (With claims.grouping) (With claims.measure) (With claims.sort) (With claims.clause) (With claims.value) (With claims.row) (With claims.table)
      FunctionArgument RawExpr RawCount RawOffset RawRel RawSource AggregateFunction Grouping Measure SortField IfClause IfValue ExprRow VirtualTable
      (λ one. one.0) (λ one. one.0) (λ one. one.0) (λ one. one.0) (λ one. one.0) (λ one. one.0) (λ one. one.0) (λ one. one.0) (λ one. one.0) (λ one. one.0) (λ one. one.0) (λ one. one.0) (λ one. one.0) (λ one. one.0)

  abbrev pub first_measure : Shown claims Measure-F → Opened Measure-F
  first_measure =
      map-Measure (With claims.argument) (With claims.expr) (With claims.count) (With claims.offset) (With claims.rel) (With claims.source) (With claims.function) (With claims.grouping) (With claims.measure) (With claims.sort) (With claims.clause) (With claims.value) (With claims.row) (With claims.table)
      FunctionArgument RawExpr RawCount RawOffset RawRel RawSource AggregateFunction Grouping Measure SortField IfClause IfValue ExprRow VirtualTable
      (λ one. one.0) (λ one. one.0) (λ one. one.0) (λ one. one.0) (λ one. one.0) (λ one. one.0) (λ one. one.0) (λ one. one.0) (λ one. one.0) (λ one. one.0) (λ one. one.0) (λ one. one.0) (λ one. one.0) (λ one. one.0)

  abbrev pub first_sort : Shown claims SortField-F → Opened SortField-F
  first_sort =
      map-SortField (With claims.argument) (With claims.expr) (With claims.count) (With claims.offset) (With claims.rel) (With claims.source) (With claims.function) (With claims.grouping) (With claims.measure) (With claims.sort) (With claims.clause) (With claims.value) (With claims.row) (With claims.table)
      FunctionArgument RawExpr RawCount RawOffset RawRel RawSource AggregateFunction Grouping Measure SortField IfClause IfValue ExprRow VirtualTable
      (λ one. one.0) (λ one. one.0) (λ one. one.0) (λ one. one.0) (λ one. one.0) (λ one. one.0) (λ one. one.0) (λ one. one.0) (λ one. one.0) (λ one. one.0) (λ one. one.0) (λ one. one.0) (λ one. one.0) (λ one. one.0)

  abbrev pub first_clause : Shown claims IfClause-F → Opened IfClause-F
  first_clause =
      map-IfClause (With claims.argument) (With claims.expr) (With claims.count) (With claims.offset) (With claims.rel) (With claims.source) (With claims.function) (With claims.grouping) (With claims.measure) (With claims.sort) (With claims.clause) (With claims.value) (With claims.row) (With claims.table)
      FunctionArgument RawExpr RawCount RawOffset RawRel RawSource AggregateFunction Grouping Measure SortField IfClause IfValue ExprRow VirtualTable
      (λ one. one.0) (λ one. one.0) (λ one. one.0) (λ one. one.0) (λ one. one.0) (λ one. one.0) (λ one. one.0) (λ one. one.0) (λ one. one.0) (λ one. one.0) (λ one. one.0) (λ one. one.0) (λ one. one.0) (λ one. one.0)

  abbrev pub first_value : Shown claims IfValue-F → Opened IfValue-F
  first_value =
      map-IfValue (With claims.argument) (With claims.expr) (With claims.count) (With claims.offset) (With claims.rel) (With claims.source) (With claims.function) (With claims.grouping) (With claims.measure) (With claims.sort) (With claims.clause) (With claims.value) (With claims.row) (With claims.table)
      FunctionArgument RawExpr RawCount RawOffset RawRel RawSource AggregateFunction Grouping Measure SortField IfClause IfValue ExprRow VirtualTable
      (λ one. one.0) (λ one. one.0) (λ one. one.0) (λ one. one.0) (λ one. one.0) (λ one. one.0) (λ one. one.0) (λ one. one.0) (λ one. one.0) (λ one. one.0) (λ one. one.0) (λ one. one.0) (λ one. one.0) (λ one. one.0)

  abbrev pub first_row : Shown claims ExprRow-F → Opened ExprRow-F
  first_row =
      map-ExprRow (With claims.argument) (With claims.expr) (With claims.count) (With claims.offset) (With claims.rel) (With claims.source) (With claims.function) (With claims.grouping) (With claims.measure) (With claims.sort) (With claims.clause) (With claims.value) (With claims.row) (With claims.table)
      FunctionArgument RawExpr RawCount RawOffset RawRel RawSource AggregateFunction Grouping Measure SortField IfClause IfValue ExprRow VirtualTable
      (λ one. one.0) (λ one. one.0) (λ one. one.0) (λ one. one.0) (λ one. one.0) (λ one. one.0) (λ one. one.0) (λ one. one.0) (λ one. one.0) (λ one. one.0) (λ one. one.0) (λ one. one.0) (λ one. one.0) (λ one. one.0)

  abbrev pub first_table : Shown claims VirtualTable-F → Opened VirtualTable-F
  first_table =
      map-VirtualTable (With claims.argument) (With claims.expr) (With claims.count) (With claims.offset) (With claims.rel) (With claims.source) (With claims.function) (With claims.grouping) (With claims.measure) (With claims.sort) (With claims.clause) (With claims.value) (With claims.row) (With claims.table)
      FunctionArgument RawExpr RawCount RawOffset RawRel RawSource AggregateFunction Grouping Measure SortField IfClause IfValue ExprRow VirtualTable
      (λ one. one.0) (λ one. one.0) (λ one. one.0) (λ one. one.0) (λ one. one.0) (λ one. one.0) (λ one. one.0) (λ one. one.0) (λ one. one.0) (λ one. one.0) (λ one. one.0) (λ one. one.0) (λ one. one.0) (λ one. one.0)

  -- expressions
  pub first-IfThen : (ifs : List (With claims.clause)) (other : Option (With claims.expr)) → first_expr (RawExpr-F.IfThen ifs other) ≡ RawExpr-F.IfThen (map (λ one. one.0) ifs) (option_map (λ one. one.0) other)
  first-IfThen ifs None = refl
  first-IfThen ifs (Some other) = refl

  pub first-SwitchExpression : (ifs : List (With claims.value)) (other : Option (With claims.expr)) (match : Option (With claims.expr)) → first_expr (RawExpr-F.SwitchExpression ifs other match) ≡ RawExpr-F.SwitchExpression (map (λ one. one.0) ifs) (option_map (λ one. one.0) other) (option_map (λ one. one.0) match)
  first-SwitchExpression ifs None None = refl
  first-SwitchExpression ifs None (Some match) = refl
  first-SwitchExpression ifs (Some other) None = refl
  first-SwitchExpression ifs (Some other) (Some match) = refl

  pub first-SingularOrList : (value : Option (With claims.expr)) (options : List (With claims.expr)) → first_expr (RawExpr-F.SingularOrList value options) ≡ RawExpr-F.SingularOrList (option_map (λ one. one.0) value) (map (λ one. one.0) options)
  first-SingularOrList None options = refl
  first-SingularOrList (Some value) options = refl

  pub first-Cast : (type : Option RawType) (input : Option (With claims.expr)) (failure : ℕ) → first_expr (RawExpr-F.Cast type input failure) ≡ RawExpr-F.Cast type (option_map (λ one. one.0) input) failure
  first-Cast type None failure = refl
  first-Cast type (Some input) failure = refl

  pub first-Scalar : (input : Option (With claims.rel)) → first_expr (RawExpr-F.Scalar input) ≡ RawExpr-F.Scalar (option_map (λ one. one.0) input)
  first-Scalar None = refl
  first-Scalar (Some input) = refl

  pub first-InPredicate : (needles : List (With claims.expr)) (haystack : Option (With claims.rel)) → first_expr (RawExpr-F.InPredicate needles haystack) ≡ RawExpr-F.InPredicate (map (λ one. one.0) needles) (option_map (λ one. one.0) haystack)
  first-InPredicate needles None = refl
  first-InPredicate needles (Some haystack) = refl

  pub first-SetPredicate : (predicate : ℕ) (tuples : Option (With claims.rel)) → first_expr (RawExpr-F.SetPredicate predicate tuples) ≡ RawExpr-F.SetPredicate predicate (option_map (λ one. one.0) tuples)
  first-SetPredicate predicate None = refl
  first-SetPredicate predicate (Some tuples) = refl

  -- relations
  pub first-Read : (common : Option RelCommon) (schema : Option NamedStruct) (filter : Option (With claims.expr)) (projection : Option MaskExpression) (source : With claims.source) (hint : Option (With claims.expr)) → first_rel (RawRel-F.Read common schema filter projection source hint) ≡ RawRel-F.Read common schema (option_map (λ one. one.0) filter) projection source.0 (option_map (λ one. one.0) hint)
  first-Read common schema None projection source None = refl
  first-Read common schema None projection source (Some hint) = refl
  first-Read common schema (Some filter) projection source None = refl
  first-Read common schema (Some filter) projection source (Some hint) = refl

  pub first-Filter : (common : Option RelCommon) (input : Option (With claims.rel)) (condition : Option (With claims.expr)) → first_rel (RawRel-F.Filter common input condition) ≡ RawRel-F.Filter common (option_map (λ one. one.0) input) (option_map (λ one. one.0) condition)
  first-Filter common None None = refl
  first-Filter common None (Some condition) = refl
  first-Filter common (Some input) None = refl
  first-Filter common (Some input) (Some condition) = refl

  pub first-Fetch : (common : Option RelCommon) (input : Option (With claims.rel)) (offset : With claims.offset) (count : With claims.count) → first_rel (RawRel-F.Fetch common input offset count) ≡ RawRel-F.Fetch common (option_map (λ one. one.0) input) offset.0 count.0
  first-Fetch common None offset count = refl
  first-Fetch common (Some input) offset count = refl

  pub first-Aggregate : (common : Option RelCommon) (input : Option (With claims.rel)) (groupings : List (With claims.grouping)) (measures : List (With claims.measure)) (expressions : List (With claims.expr)) → first_rel (RawRel-F.Aggregate common input groupings measures expressions) ≡ RawRel-F.Aggregate common (option_map (λ one. one.0) input) (map (λ one. one.0) groupings) (map (λ one. one.0) measures) (map (λ one. one.0) expressions)
  first-Aggregate common None groupings measures expressions = refl
  first-Aggregate common (Some input) groupings measures expressions = refl

  pub first-Sort : (common : Option RelCommon) (input : Option (With claims.rel)) (sorts : List (With claims.sort)) → first_rel (RawRel-F.Sort common input sorts) ≡ RawRel-F.Sort common (option_map (λ one. one.0) input) (map (λ one. one.0) sorts)
  first-Sort common None sorts = refl
  first-Sort common (Some input) sorts = refl

  pub first-Join : (common : Option RelCommon) (left : Option (With claims.rel)) (right : Option (With claims.rel)) (expression : Option (With claims.expr)) (post : Option (With claims.expr)) (type : ℕ) → first_rel (RawRel-F.Join common left right expression post type) ≡ RawRel-F.Join common (option_map (λ one. one.0) left) (option_map (λ one. one.0) right) (option_map (λ one. one.0) expression) (option_map (λ one. one.0) post) type
  first-Join common None None None None type = refl
  first-Join common None None None (Some post) type = refl
  first-Join common None None (Some expression) None type = refl
  first-Join common None None (Some expression) (Some post) type = refl
  first-Join common None (Some right) None None type = refl
  first-Join common None (Some right) None (Some post) type = refl
  first-Join common None (Some right) (Some expression) None type = refl
  first-Join common None (Some right) (Some expression) (Some post) type = refl
  first-Join common (Some left) None None None type = refl
  first-Join common (Some left) None None (Some post) type = refl
  first-Join common (Some left) None (Some expression) None type = refl
  first-Join common (Some left) None (Some expression) (Some post) type = refl
  first-Join common (Some left) (Some right) None None type = refl
  first-Join common (Some left) (Some right) None (Some post) type = refl
  first-Join common (Some left) (Some right) (Some expression) None type = refl
  first-Join common (Some left) (Some right) (Some expression) (Some post) type = refl

  pub first-Project : (common : Option RelCommon) (input : Option (With claims.rel)) (expressions : List (With claims.expr)) → first_rel (RawRel-F.Project common input expressions) ≡ RawRel-F.Project common (option_map (λ one. one.0) input) (map (λ one. one.0) expressions)
  first-Project common None expressions = refl
  first-Project common (Some input) expressions = refl

  pub first-Cross : (common : Option RelCommon) (left : Option (With claims.rel)) (right : Option (With claims.rel)) → first_rel (RawRel-F.Cross common left right) ≡ RawRel-F.Cross common (option_map (λ one. one.0) left) (option_map (λ one. one.0) right)
  first-Cross common None None = refl
  first-Cross common None (Some right) = refl
  first-Cross common (Some left) None = refl
  first-Cross common (Some left) (Some right) = refl

  -- messages of several fields
  pub first-IfClause : (when : Option (With claims.expr)) (value : Option (With claims.expr)) → first_clause (record { if_ = when; «then» = value }) ≡ record { if_ = (option_map (λ one. one.0) when); «then» = (option_map (λ one. one.0) value) }
  first-IfClause None None = refl
  first-IfClause None (Some value) = refl
  first-IfClause (Some when) None = refl
  first-IfClause (Some when) (Some value) = refl

  pub first-IfValue : (literal : Option RawLiteral) (value : Option (With claims.expr)) → first_value (record { if_ = literal; «then» = value }) ≡ record { if_ = literal; «then» = (option_map (λ one. one.0) value) }
  first-IfValue literal None = refl
  first-IfValue literal (Some value) = refl

  pub first-SortField : (expr : Option (With claims.expr)) (direction : ℕ) → first_sort (record { expr = expr; direction = direction }) ≡ record { expr = (option_map (λ one. one.0) expr); direction = direction }
  first-SortField None direction = refl
  first-SortField (Some expr) direction = refl

  pub first-Measure : (function : Option (With claims.function)) (filter : Option (With claims.expr)) → first_measure (record { measure = function; filter = filter }) ≡ record { measure = (option_map (λ one. one.0) function); filter = (option_map (λ one. one.0) filter) }
  first-Measure None None = refl
  first-Measure None (Some filter) = refl
  first-Measure (Some function) None = refl
  first-Measure (Some function) (Some filter) = refl
