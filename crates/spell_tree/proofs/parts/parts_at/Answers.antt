use Rattle.std.proofs.Common.{ap, refl}
use Rattle.plan_scan.specs.declared.shape.Shape.TheVariants as s
use Rattle.spell_leaves.proofs.FrontLaws.{items_arm, single_arm}
use Rattle.spell_tree.specs.declared.part.TreesRef.TheVariants as t
use Rattle.spell_tree.specs.Seen.{tree_parts_seen, trees_seen}
use Rattle.spell_tree.proofs.TreeLaws.{exprs_arm, rels_arm}
use Rattle.spell_tree.proofs.parts.parts_at.Goals as goal

pub returns-in-Plan : goal.returns-in-Plan
returns-in-Plan c = single_arm trees_seen (λ parts. tree_parts_seen parts.items) c.plan_parts.result c.args.trees (t.Plan c.in-Plan.plan) c.args.at s.Plan c.in-Plan.plan.now c.in-Plan.is refl c.requires c.plan_parts.ensures

pub returns-in-PlanRel : goal.returns-in-PlanRel
returns-in-PlanRel c = items_arm trees_seen (λ parts. tree_parts_seen parts.items) c.plan_rel_parts.result c.args.trees (t.PlanRel c.in-PlanRel.roots) c.args.at s.PlanRel c.in-PlanRel.roots.now c.index-roots-at.result c.in-PlanRel.is refl c.requires c.index-roots-at.is c.plan_rel_parts.ensures

pub returns-in-RelRoot : goal.returns-in-RelRoot
returns-in-RelRoot c = items_arm trees_seen (λ parts. tree_parts_seen parts.items) c.root_parts.result c.args.trees (t.RelRoot c.in-RelRoot.roots) c.args.at s.RelRoot c.in-RelRoot.roots.now c.index-roots-at-in-RelRoot.result c.in-RelRoot.is refl c.requires c.index-roots-at-in-RelRoot.is c.root_parts.ensures

pub returns-in-Rels : goal.returns-in-Rels
returns-in-Rels c = rels_arm (λ parts. tree_parts_seen parts.items) c.parts_as.result c.args.trees c.in-Rels.role c.in-Rels.rels.now c.args.at c.index-rels-at.result (ap trees_seen c.in-Rels.is) c.requires c.index-rels-at.is c.parts_as.ensures

pub returns-in-VirtualTable : goal.returns-in-VirtualTable
returns-in-VirtualTable c = items_arm trees_seen (λ parts. tree_parts_seen parts.items) c.virtual_table_parts.result c.args.trees (t.VirtualTable c.in-VirtualTable.tables) c.args.at s.VirtualTable c.in-VirtualTable.tables.now c.index-tables-at.result c.in-VirtualTable.is refl c.requires c.index-tables-at.is c.virtual_table_parts.ensures

pub returns-in-ExpressionRow : goal.returns-in-ExpressionRow
returns-in-ExpressionRow c = items_arm trees_seen (λ parts. tree_parts_seen parts.items) c.expression_row_parts.result c.args.trees (t.ExpressionRow c.in-ExpressionRow.rows) c.args.at s.ExpressionRow c.in-ExpressionRow.rows.now c.index-rows-at.result c.in-ExpressionRow.is refl c.requires c.index-rows-at.is c.expression_row_parts.ensures

pub returns-in-Grouping : goal.returns-in-Grouping
returns-in-Grouping c = items_arm trees_seen (λ parts. tree_parts_seen parts.items) c.grouping_parts.result c.args.trees (t.Grouping c.in-Grouping.groupings) c.args.at s.Grouping c.in-Grouping.groupings.now c.item_in.result.now c.in-Grouping.is refl c.requires c.item_in.ensures c.grouping_parts.ensures

pub returns-in-Measure : goal.returns-in-Measure
returns-in-Measure c = items_arm trees_seen (λ parts. tree_parts_seen parts.items) c.measure_parts.result c.args.trees (t.Measure c.in-Measure.measures) c.args.at s.Measure c.in-Measure.measures.now c.item_in-in-Measure.result.now c.in-Measure.is refl c.requires c.item_in-in-Measure.ensures c.measure_parts.ensures

pub returns-in-AggregateFunction : goal.returns-in-AggregateFunction
returns-in-AggregateFunction c = items_arm trees_seen (λ parts. tree_parts_seen parts.items) c.aggregate_function_parts.result c.args.trees (t.AggregateFunction c.in-AggregateFunction.functions) c.args.at s.AggregateFunction c.in-AggregateFunction.functions.now c.index-functions-at.result c.in-AggregateFunction.is refl c.requires c.index-functions-at.is c.aggregate_function_parts.ensures

pub returns-in-SortField : goal.returns-in-SortField
returns-in-SortField c = items_arm trees_seen (λ parts. tree_parts_seen parts.items) c.sort_field_parts.result c.args.trees (t.SortField c.in-SortField.sorts) c.args.at s.SortField c.in-SortField.sorts.now c.item_in-in-SortField.result.now c.in-SortField.is refl c.requires c.item_in-in-SortField.ensures c.sort_field_parts.ensures

pub returns-in-Exprs : goal.returns-in-Exprs
returns-in-Exprs c = exprs_arm (λ parts. tree_parts_seen parts.items) c.parts_as-in-Exprs.result c.args.trees c.in-Exprs.role c.in-Exprs.exprs.now c.args.at c.index-exprs-at.result (ap trees_seen c.in-Exprs.is) c.requires c.index-exprs-at.is c.parts_as-in-Exprs.ensures

pub returns-in-FunctionArgument : goal.returns-in-FunctionArgument
returns-in-FunctionArgument c = items_arm trees_seen (λ parts. tree_parts_seen parts.items) c.argument_parts.result c.args.trees (t.FunctionArgument c.in-FunctionArgument.arguments) c.args.at s.FunctionArgument c.in-FunctionArgument.arguments.now c.item_in-in-FunctionArgument.result.now c.in-FunctionArgument.is refl c.requires c.item_in-in-FunctionArgument.ensures c.argument_parts.ensures

pub returns-in-IfClause : goal.returns-in-IfClause
returns-in-IfClause c = items_arm trees_seen (λ parts. tree_parts_seen parts.items) c.if_clause_parts.result c.args.trees (t.IfClause c.in-IfClause.clauses) c.args.at s.IfClause c.in-IfClause.clauses.now c.item_in-in-IfClause.result.now c.in-IfClause.is refl c.requires c.item_in-in-IfClause.ensures c.if_clause_parts.ensures

pub returns-in-IfValue : goal.returns-in-IfValue
returns-in-IfValue c = items_arm trees_seen (λ parts. tree_parts_seen parts.items) c.if_value_parts.result c.args.trees (t.IfValue c.in-IfValue.values) c.args.at s.IfValue c.in-IfValue.values.now c.item_in-in-IfValue.result.now c.in-IfValue.is refl c.requires c.item_in-in-IfValue.ensures c.if_value_parts.ensures
