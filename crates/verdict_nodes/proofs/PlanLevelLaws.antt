-- No check of a relation, an expression or a measure depends on the numbers of nodes.
use Rattle.std.proofs.Common.{◌≡◌, ◌∙◌, ℕ, Option, map, refl, sym, ap, subst}
use Rattle.std.specs.Option.{option_map}
use Rattle.plan_raw.specs.declared.aggregate.AggregateFunction.{roll-AggregateFunction}
use Rattle.plan_raw.specs.declared.aggregate.Grouping.{Grouping, roll-Grouping}
use Rattle.plan_raw.specs.declared.aggregate.Measure.{Measure, roll-Measure}
use Rattle.plan_raw.specs.declared.aggregate.SortField.{roll-SortField}
use Rattle.plan_raw.specs.declared.argument.FunctionArgument.{roll-FunctionArgument}
use Rattle.plan_raw.specs.declared.argument.FunctionArgument.TheFolds.{ind-RawExpr, ind-Grouping, ind-Measure}
use Rattle.plan_raw.specs.declared.expr.IfClause.{roll-IfClause}
use Rattle.plan_raw.specs.declared.expr.IfValue.{roll-IfValue}
use Rattle.plan_raw.specs.declared.expr.RawExpr.{RawExpr, roll-RawExpr}
use Rattle.plan_raw.specs.declared.rel.RawRel.{RawRel, RawRel-F, roll-RawRel}
use Rattle.plan_raw.specs.declared.rel.RawRel.TheVariants as r
use Rattle.plan_raw.specs.declared.source.ExprRow.{roll-ExprRow}
use Rattle.plan_raw.specs.declared.source.RawSource.{roll-RawSource}
use Rattle.plan_raw.specs.declared.source.VirtualTable.{roll-VirtualTable}
use Rattle.plan_tree.specs.Fold.{Opened}
use Rattle.plan_typed.specs.declared.rel.Rel.{Rel}
use Rattle.well_typed.specs.WellTyped.{MayBe}
use Rattle.plan_verdict.specs.declared.rule.Rule.TheVariants as rules
use Rattle.plan_verdict.specs.Checking.{Checking}
use Rattle.plan_verdict.specs.Exprs.{Terms}
use Rattle.plan_verdict.specs.Verdict.{checked_expr, checked_count, checked_offset, checked_rel, checked_source, checked_grouping, checked_measure, checked_sort}
use Rattle.plan_verdict.proofs.Firsts.{Claims, Shown, maybe_first, all_first, first_rel, first-Read, first-Filter, first-Fetch, first-Aggregate, first-Sort, first-Join, first-Project, first-Cross}
use Rattle.plan_verdict.proofs.FoldLaws.{checked_rel-Missing, checked_rel-Unknown, checked_rel-Read, checked_rel-Filter, checked_rel-Fetch, checked_rel-Aggregate, checked_rel-Sort, checked_rel-Join, checked_rel-Project, checked_rel-Set, checked_rel-Cross}
use Rattle.verdict_nodes.proofs.AggregateLaws.{AreBlindSets, IsBlindMeasure, aggregate_alike}
use Rattle.verdict_nodes.proofs.ExprLaws.{IsBlindExpr, IsBlindRel}
use Rattle.verdict_nodes.proofs.LevelLaws.{claims_of, maybe_expr, all_exprs, argument_level, expr_level, clause_level, value_level}
use Rattle.verdict_nodes.proofs.PartLevelLaws.{sort_level, grouping_level, function_level, measure_level, row_level, table_level, source_level}
use Rattle.verdict_nodes.proofs.RelLaws.{IsBlindKey, read_alike, filter_alike, fetch_alike, sort_alike, join_alike, project_alike, cross_alike, set_alike}
use Rattle.verdict_nodes.proofs.Steps.{refused}

module _ (terms : Terms) where
  abbrev claims : Claims
  claims = claims_of terms

  rel_by : {level : Opened RawRel-F} {rel : RawRel} {found : ℕ → Checking Rel} (y : Shown claims RawRel-F) → first_rel claims y ≡ level → roll-RawRel level ≡ rel → checked_rel terms rel ≡ found → IsBlindRel found
      → IsBlindRel (checked_rel terms (roll-RawRel (first_rel claims y)))
  rel_by y same rolls is same_in = subst IsBlindRel (sym (ap (λ l. checked_rel terms (roll-RawRel l)) same ∙ ap (checked_rel terms) rolls ∙ is)) same_in

  maybe_rel : (written : Option ((one : RawRel) × IsBlindRel (checked_rel terms one))) → MayBe IsBlindRel (option_map (checked_rel terms) (option_map (λ one. one.0) written))
  maybe_rel written = maybe_first claims.rel IsBlindRel (checked_rel terms) written (λ one same. same)

  -- a relation, by its member
  pub rel_level : (y : Shown claims RawRel-F) → IsBlindRel (checked_rel terms (roll-RawRel (first_rel claims y)))
  rel_level RawRel-F.«RawRel::Missing» =
      rel_by RawRel-F.«RawRel::Missing» refl r.rolls-Missing (checked_rel-Missing terms) (λ number. refused number rules.MissingField)
  rel_level (RawRel-F.«RawRel::Unknown» unknown) =
      rel_by (RawRel-F.«RawRel::Unknown» unknown) refl (r.rolls-Unknown unknown) (checked_rel-Unknown terms unknown) (λ number. refused number (rules.UnknownRelation unknown))
  rel_level (RawRel-F.Read common schema filter projection source hint) =
      let test = option_map (λ one. one.0) filter in
      let unused = option_map (λ one. one.0) hint in
      rel_by (RawRel-F.Read common schema filter projection source hint) (first-Read claims common schema filter projection source hint) (r.rolls-Read common schema test projection source.0 unused) (checked_rel-Read terms common schema test projection source.0 unused)
      (λ number. read_alike number common schema (option_map (checked_expr terms) test) projection (checked_source terms source.0) (maybe_expr terms filter) source.1)
  rel_level (RawRel-F.Filter common input condition) =
      let inner = option_map (λ one. one.0) input in
      let test = option_map (λ one. one.0) condition in
      rel_by (RawRel-F.Filter common input condition) (first-Filter claims common input condition) (r.rolls-Filter common inner test) (checked_rel-Filter terms common inner test)
      (λ number. filter_alike number common (option_map (checked_rel terms) inner) (option_map (checked_expr terms) test) (maybe_rel input) (maybe_expr terms condition))
  rel_level (RawRel-F.Fetch common input offset count) =
      let inner = option_map (λ one. one.0) input in
      rel_by (RawRel-F.Fetch common input offset count) (first-Fetch claims common input offset count) (r.rolls-Fetch common inner offset.0 count.0) (checked_rel-Fetch terms common inner offset.0 count.0)
      (λ number. fetch_alike number common (option_map (checked_rel terms) inner) (checked_offset terms offset.0) (checked_count terms count.0) (maybe_rel input))
  rel_level (RawRel-F.Aggregate common input groupings measures expressions) =
      let inner = option_map (λ one. one.0) input in
      let sets = map (λ one. one.0) groupings in
      let calls = map (λ one. one.0) measures in
      let exprs = map (λ one. one.0) expressions in
      rel_by (RawRel-F.Aggregate common input groupings measures expressions) (first-Aggregate claims common input groupings measures expressions) (r.rolls-Aggregate common inner sets calls exprs) (checked_rel-Aggregate terms common inner sets calls exprs)
      (λ number. aggregate_alike number common (option_map (checked_rel terms) inner) (map (checked_grouping terms) sets) (map (checked_measure terms) calls) (map (checked_expr terms) exprs) (maybe_rel input)
      (all_first claims.grouping AreBlindSets (checked_grouping terms) groupings (λ one same. same)) (all_first claims.measure IsBlindMeasure (checked_measure terms) measures (λ one same. same)) (all_exprs terms expressions))
  rel_level (RawRel-F.Sort common input sorts) =
      let inner = option_map (λ one. one.0) input in
      let keys = map (λ one. one.0) sorts in
      rel_by (RawRel-F.Sort common input sorts) (first-Sort claims common input sorts) (r.rolls-Sort common inner keys) (checked_rel-Sort terms common inner keys)
      (λ number. sort_alike number common (option_map (checked_rel terms) inner) (map (checked_sort terms) keys) (maybe_rel input) (all_first claims.sort IsBlindKey (checked_sort terms) sorts (λ one same. same)))
  rel_level (RawRel-F.Join common left right expression post type) =
      let first = option_map (λ one. one.0) left in
      let second = option_map (λ one. one.0) right in
      let on = option_map (λ one. one.0) expression in
      let later = option_map (λ one. one.0) post in
      rel_by (RawRel-F.Join common left right expression post type) (first-Join claims common left right expression post type) (r.rolls-Join common first second on later type) (checked_rel-Join terms common first second on later type)
      (λ number. join_alike number common (option_map (checked_rel terms) first) (option_map (checked_rel terms) second) (option_map (checked_expr terms) on) (option_map (checked_expr terms) later) type
      (maybe_rel left) (maybe_rel right) (maybe_expr terms expression) (maybe_expr terms post))
  rel_level (RawRel-F.Project common input expressions) =
      let inner = option_map (λ one. one.0) input in
      let exprs = map (λ one. one.0) expressions in
      rel_by (RawRel-F.Project common input expressions) (first-Project claims common input expressions) (r.rolls-Project common inner exprs) (checked_rel-Project terms common inner exprs)
      (λ number. project_alike number common (option_map (checked_rel terms) inner) (map (checked_expr terms) exprs) (maybe_rel input) (all_exprs terms expressions))
  rel_level (RawRel-F.Set common inputs op) =
      let rels = map (λ one. one.0) inputs in
      rel_by (RawRel-F.Set common inputs op) refl (r.rolls-Set common rels op) (checked_rel-Set terms common rels op)
      (λ number. set_alike number common (map (checked_rel terms) rels) op (all_first claims.rel IsBlindRel (checked_rel terms) inputs (λ one same. same)))
  rel_level (RawRel-F.Cross common left right) =
      let first = option_map (λ one. one.0) left in
      let second = option_map (λ one. one.0) right in
      rel_by (RawRel-F.Cross common left right) (first-Cross claims common left right) (r.rolls-Cross common first second) (checked_rel-Cross terms common first second)
      (λ number. cross_alike number common (option_map (checked_rel terms) first) (option_map (checked_rel terms) second) (maybe_rel left) (maybe_rel right))

  -- every expression, every measure and every grouping
  pub every_expr_alike : (expr : RawExpr) → IsBlindExpr (checked_expr terms expr)
  every_expr_alike =
      ind-RawExpr claims.argument claims.expr claims.count claims.offset claims.rel claims.source claims.function claims.grouping claims.measure claims.sort claims.clause claims.value claims.row claims.table
      (λ x y is. subst (λ l. claims.argument (roll-FunctionArgument l)) is (argument_level terms y))
      (λ x y is. subst (λ l. claims.expr (roll-RawExpr l)) is (expr_level terms y))
      (λ x y is. tt)
      (λ x y is. tt)
      (λ x y is. subst (λ l. claims.rel (roll-RawRel l)) is (rel_level y))
      (λ x y is. subst (λ l. claims.source (roll-RawSource l)) is (source_level terms y))
      (λ x y is. subst (λ l. claims.function (roll-AggregateFunction l)) is (function_level terms y))
      (λ x y is. subst (λ l. claims.grouping (roll-Grouping l)) is (grouping_level terms y))
      (λ x y is. subst (λ l. claims.measure (roll-Measure l)) is (measure_level terms y))
      (λ x y is. subst (λ l. claims.sort (roll-SortField l)) is (sort_level terms y))
      (λ x y is. subst (λ l. claims.clause (roll-IfClause l)) is (clause_level terms y))
      (λ x y is. subst (λ l. claims.value (roll-IfValue l)) is (value_level terms y))
      (λ x y is. subst (λ l. claims.row (roll-ExprRow l)) is (row_level terms y))
      (λ x y is. subst (λ l. claims.table (roll-VirtualTable l)) is (table_level terms y))

  pub every_measure_alike : (measure : Measure) → IsBlindMeasure (checked_measure terms measure)
  every_measure_alike =
      ind-Measure claims.argument claims.expr claims.count claims.offset claims.rel claims.source claims.function claims.grouping claims.measure claims.sort claims.clause claims.value claims.row claims.table
      (λ x y is. subst (λ l. claims.argument (roll-FunctionArgument l)) is (argument_level terms y))
      (λ x y is. subst (λ l. claims.expr (roll-RawExpr l)) is (expr_level terms y))
      (λ x y is. tt)
      (λ x y is. tt)
      (λ x y is. subst (λ l. claims.rel (roll-RawRel l)) is (rel_level y))
      (λ x y is. subst (λ l. claims.source (roll-RawSource l)) is (source_level terms y))
      (λ x y is. subst (λ l. claims.function (roll-AggregateFunction l)) is (function_level terms y))
      (λ x y is. subst (λ l. claims.grouping (roll-Grouping l)) is (grouping_level terms y))
      (λ x y is. subst (λ l. claims.measure (roll-Measure l)) is (measure_level terms y))
      (λ x y is. subst (λ l. claims.sort (roll-SortField l)) is (sort_level terms y))
      (λ x y is. subst (λ l. claims.clause (roll-IfClause l)) is (clause_level terms y))
      (λ x y is. subst (λ l. claims.value (roll-IfValue l)) is (value_level terms y))
      (λ x y is. subst (λ l. claims.row (roll-ExprRow l)) is (row_level terms y))
      (λ x y is. subst (λ l. claims.table (roll-VirtualTable l)) is (table_level terms y))

  pub every_grouping_alike : (grouping : Grouping) → AreBlindSets (checked_grouping terms grouping)
  every_grouping_alike =
      ind-Grouping claims.argument claims.expr claims.count claims.offset claims.rel claims.source claims.function claims.grouping claims.measure claims.sort claims.clause claims.value claims.row claims.table
      (λ x y is. subst (λ l. claims.argument (roll-FunctionArgument l)) is (argument_level terms y))
      (λ x y is. subst (λ l. claims.expr (roll-RawExpr l)) is (expr_level terms y))
      (λ x y is. tt)
      (λ x y is. tt)
      (λ x y is. subst (λ l. claims.rel (roll-RawRel l)) is (rel_level y))
      (λ x y is. subst (λ l. claims.source (roll-RawSource l)) is (source_level terms y))
      (λ x y is. subst (λ l. claims.function (roll-AggregateFunction l)) is (function_level terms y))
      (λ x y is. subst (λ l. claims.grouping (roll-Grouping l)) is (grouping_level terms y))
      (λ x y is. subst (λ l. claims.measure (roll-Measure l)) is (measure_level terms y))
      (λ x y is. subst (λ l. claims.sort (roll-SortField l)) is (sort_level terms y))
      (λ x y is. subst (λ l. claims.clause (roll-IfClause l)) is (clause_level terms y))
      (λ x y is. subst (λ l. claims.value (roll-IfValue l)) is (value_level terms y))
      (λ x y is. subst (λ l. claims.row (roll-ExprRow l)) is (row_level terms y))
      (λ x y is. subst (λ l. claims.table (roll-VirtualTable l)) is (table_level terms y))
