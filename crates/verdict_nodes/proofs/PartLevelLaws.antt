-- What is known of the parts of relations holds of each where it holds of the messages inside it.
use Rattle.std.proofs.Common.{◌≡◌, ◌∙◌, ℕ, List, Option, map, sym, ap, subst}
use Rattle.std.specs.Option.{option_map}
use Rattle.std.specs.List.{AllByRecursion}
use Rattle.sub_types.specs.declared.kind.Ty.{Ty}
use Rattle.plan_raw.specs.declared.aggregate.AggregateFunction.{AggregateFunction-F, roll-AggregateFunction, out-roll-AggregateFunction}
use Rattle.plan_raw.specs.declared.aggregate.Grouping.{Grouping-F, roll-Grouping, out-roll-Grouping}
use Rattle.plan_raw.specs.declared.aggregate.Measure.{Measure-F, roll-Measure, out-Measure, out-roll-Measure}
use Rattle.plan_raw.specs.declared.aggregate.SortField.{SortField-F, roll-SortField, out-SortField, out-roll-SortField}
use Rattle.plan_raw.specs.declared.source.ExprRow.{ExprRow-F, roll-ExprRow, out-roll-ExprRow}
use Rattle.plan_raw.specs.declared.source.RawSource.{RawSource, RawSource-F, roll-RawSource}
use Rattle.plan_raw.specs.declared.source.RawSource.TheVariants as s
use Rattle.plan_raw.specs.declared.source.VirtualTable.{VirtualTable-F, roll-VirtualTable, out-roll-VirtualTable}
use Rattle.plan_tree.specs.Fold.{Opened}
use Rattle.plan_typed.specs.declared.expr.Expr.{Expr}
use Rattle.plan_typed.specs.declared.rel.Source.{Source}
use Rattle.plan_typed.specs.declared.rel.TypedMeasure.{TypedMeasure}
use Rattle.well_typed.specs.WellTyped.{MayBe}
use Rattle.plan_verdict.specs.Aggregates.{measured, measure_in}
use Rattle.plan_verdict.specs.Checking.{Checking}
use Rattle.plan_verdict.specs.Exprs.{Terms}
use Rattle.plan_verdict.specs.Meaning.{Scope, Sets}
use Rattle.plan_verdict.specs.Reads.{rows_in}
use Rattle.plan_verdict.specs.Rels.{sort_key}
use Rattle.plan_verdict.specs.Verdict.{checked_argument, checked_expr, checked_source, checked_function, checked_grouping, checked_measure, checked_sort, checked_row, checked_table}
use Rattle.plan_verdict.proofs.Firsts.{Claims, Shown, maybe_first, all_first, first_source, first_function, first_grouping, first_measure, first_sort, first_row, first_table, first-SortField, first-Measure}
use Rattle.plan_verdict.proofs.FoldLaws.{checked_source-Missing, checked_source-VirtualTable, checked_source-LocalFiles, checked_source-NamedTable, checked_sort-out, checked_row-out, checked_table-out, checked_grouping-out, checked_measure-out, checked_function-check}
use Rattle.verdict_nodes.specs.Alike.{IsBlind}
use Rattle.verdict_nodes.proofs.AggregateLaws.{AreBlindSets, IsBlindFunction, IsBlindMeasure, measured_alike, measure_alike}
use Rattle.verdict_nodes.proofs.ExprLaws.{IsBlindExpr}
use Rattle.verdict_nodes.proofs.LevelLaws.{claims_of, maybe_expr, all_exprs}
use Rattle.verdict_nodes.proofs.RelLaws.{IsBlindKey, sort_key_alike}
use Rattle.verdict_nodes.proofs.RowLaws.{IsBlindTable, IsBlindSource, rows_alike, missing_source_alike, table_source_alike, files_source_alike, named_source_alike}

-- the call of an aggregate function
abbrev IsBlindCall : (Scope → Option Expr → Checking TypedMeasure) → Type 0
IsBlindCall call = (scope : Scope) (kept : Option Expr) → IsBlind (call scope kept)

module _ (terms : Terms) where
  abbrev claims : Claims
  claims = claims_of terms

  -- SortField
  pub sort_level : (y : Shown claims SortField-F) → IsBlindKey (checked_sort terms (roll-SortField (first_sort claims y)))
  sort_level y =
      let expr = option_map (λ one. one.0) y.expr in
      let rolled = roll-SortField (first_sort claims y) in
      let opened : out-SortField rolled ≡ record { expr = expr; direction = y.direction } = out-roll-SortField (first_sort claims y) ∙ first-SortField claims y.expr y.direction in
      subst IsBlindKey (sym (checked_sort-out terms rolled ∙ ap (λ (l : Opened SortField-F). sort_key (option_map (checked_expr terms) l.expr) l.direction) opened))
      (sort_key_alike (option_map (checked_expr terms) expr) y.direction (maybe_expr terms y.expr))

  -- Grouping
  pub grouping_level : (y : Shown claims Grouping-F) → AreBlindSets (checked_grouping terms (roll-Grouping (first_grouping claims y)))
  grouping_level y =
      let level = first_grouping claims y in
      subst (AllByRecursion IsBlindExpr) (sym (ap (λ (sets : Sets). sets.expressions) (checked_grouping-out terms (roll-Grouping level)) ∙ ap (λ (l : Opened Grouping-F). map (checked_expr terms) l.grouping_expressions) (out-roll-Grouping level)))
      (all_exprs terms y.grouping_expressions)

  -- AggregateFunction
  pub function_level : (y : Shown claims AggregateFunction-F) → IsBlindFunction (checked_function terms (roll-AggregateFunction (first_function claims y)))
  function_level y =
      let level = first_function claims y in
      subst IsBlindCall (sym (checked_function-check terms (roll-AggregateFunction level)
      ∙ ap (λ (l : Opened AggregateFunction-F). measured terms l.function_reference l.output_type (map (checked_argument terms) l.arguments) l.options) (out-roll-AggregateFunction level)))
      (measured_alike terms y.function_reference y.output_type (map (checked_argument terms) (map (λ one. one.0) y.arguments)) y.options
      (all_first claims.argument (MayBe IsBlindExpr) (checked_argument terms) y.arguments (λ one same. same)))

  -- Measure
  pub measure_level : (y : Shown claims Measure-F) → IsBlindMeasure (checked_measure terms (roll-Measure (first_measure claims y)))
  measure_level y =
      let function = option_map (λ one. one.0) y.measure in
      let filter = option_map (λ one. one.0) y.filter in
      let rolled = roll-Measure (first_measure claims y) in
      let opened : out-Measure rolled ≡ record { measure = function; filter = filter } = out-roll-Measure (first_measure claims y) ∙ first-Measure claims y.measure y.filter in
      subst IsBlindMeasure (sym (checked_measure-out terms rolled ∙ ap (λ (l : Opened Measure-F). measure_in (option_map (checked_function terms) l.measure) (option_map (checked_expr terms) l.filter)) opened))
      (measure_alike (option_map (checked_function terms) function) (option_map (checked_expr terms) filter)
      (maybe_first claims.function IsBlindFunction (checked_function terms) y.measure (λ one same. same)) (maybe_expr terms y.filter))

  -- ExprRow and VirtualTable
  pub row_level : (y : Shown claims ExprRow-F) → AllByRecursion IsBlindExpr (checked_row terms (roll-ExprRow (first_row claims y)))
  row_level y =
      let level = first_row claims y in
      subst (AllByRecursion IsBlindExpr) (sym (checked_row-out terms (roll-ExprRow level) ∙ ap (λ (l : Opened ExprRow-F). map (checked_expr terms) l.fields) (out-roll-ExprRow level))) (all_exprs terms y.fields)

  pub table_level : (y : Shown claims VirtualTable-F) → IsBlindTable (checked_table terms (roll-VirtualTable (first_table claims y)))
  table_level y =
      let level = first_table claims y in
      subst IsBlindTable (sym (checked_table-out terms (roll-VirtualTable level) ∙ ap (λ (l : Opened VirtualTable-F). rows_in l.values (map (checked_row terms) l.expressions)) (out-roll-VirtualTable level)))
      (rows_alike y.values (map (checked_row terms) (map (λ one. one.0) y.expressions)) (all_first claims.row (AllByRecursion IsBlindExpr) (checked_row terms) y.expressions (λ one same. same)))

  -- what a read reads
  source_by : {source : RawSource} {found : ℕ → List Ty → Checking Source} (y : Shown claims RawSource-F) → roll-RawSource (first_source claims y) ≡ source → checked_source terms source ≡ found → IsBlindSource found
      → IsBlindSource (checked_source terms (roll-RawSource (first_source claims y)))
  source_by y rolls is same_in = subst IsBlindSource (sym (ap (checked_source terms) rolls ∙ is)) same_in

  pub source_level : (y : Shown claims RawSource-F) → IsBlindSource (checked_source terms (roll-RawSource (first_source claims y)))
  source_level RawSource-F.«RawSource::Missing» = source_by RawSource-F.«RawSource::Missing» s.rolls-Missing (checked_source-Missing terms) missing_source_alike
  source_level (RawSource-F.VirtualTable table) = source_by (RawSource-F.VirtualTable table) (s.rolls-VirtualTable table.0) (checked_source-VirtualTable terms table.0) (table_source_alike (checked_table terms table.0) table.1)
  source_level (RawSource-F.LocalFiles files) = source_by (RawSource-F.LocalFiles files) (s.rolls-LocalFiles files) (checked_source-LocalFiles terms files) (files_source_alike files)
  source_level (RawSource-F.NamedTable table) = source_by (RawSource-F.NamedTable table) (s.rolls-NamedTable table) (checked_source-NamedTable terms table) (named_source_alike table)
