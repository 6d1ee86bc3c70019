use Rattle.std.proofs.Common.{◌∙◌, ap, refl, map, rules as given, ⊎_elim}
use Rattle.std.specs.Option.{option_map}
use Rattle.plan_raw.specs.declared.expr.RawExpr.{RawExpr-F}
use Rattle.plan_verdict.specs.declared.rule.Rule.TheVariants as rules
use Rattle.plan_verdict.specs.Checking.{Comes}
use Rattle.plan_verdict.specs.Exprs as spec
use Rattle.plan_verdict.specs.Literals.{constant_in}
use Rattle.plan_verdict.specs.References.{selection_in}
use Rattle.plan_verdict.specs.Rels.{over}
use Rattle.plan_verdict.specs.Verdict.{checked_argument, checked_arm, checked_clause, checked_expr, checked_rel}
use Rattle.plan_verdict.proofs.FoldLaws.{checked_expr-Missing, checked_expr-Unknown, checked_expr-SubqueryUnknown, checked_expr-SetComparison, checked_expr-Literal, checked_expr-Selection, checked_expr-ScalarFunction, checked_expr-IfThen, checked_expr-SwitchExpression, checked_expr-SingularOrList, checked_expr-Cast, checked_expr-SubqueryMissing, checked_expr-Scalar, checked_expr-InPredicate, checked_expr-SetPredicate}
use Rattle.check_exprs.proofs.LevelLaws.{member_comes, refused_comes}
use Rattle.check_exprs.proofs.expr.expression_by.Goals as goal

pub returns-in-Missing : goal.returns-in-Missing
returns-in-Missing g c =
    let terms = c.args.terms.now in
    let scope = over c.args.relation c.args.columns.now in
    member_comes terms c.args.expr.now RawExpr-F.«RawExpr::Missing» scope _ _ _ _ (ap (checked_expr terms) c.in-Missing.is ∙ checked_expr-Missing terms) c.in_ok-node.ensures (refused_comes c.args.relation rules.MissingField c.refuse.result _ c.refuse.ensures refl)

pub returns-in-Unknown : goal.returns-in-Unknown
returns-in-Unknown g c =
    let terms = c.args.terms.now in
    let scope = over c.args.relation c.args.columns.now in
    ⊎_elim (λ e. member_comes terms c.args.expr.now (RawExpr-F.«RawExpr::Unknown» e.0) scope _ _ _ _ (ap (checked_expr terms) e.1 ∙ checked_expr-Unknown terms e.0) c.in_ok-node.ensures (refused_comes c.args.relation rules.UnsupportedForm c.refuse-in-Unknown.result _ c.refuse-in-Unknown.ensures refl))
    (⊎_elim (λ e. member_comes terms c.args.expr.now (RawExpr-F.SubqueryUnknown e.0) scope _ _ _ _ (ap (checked_expr terms) e.1 ∙ checked_expr-SubqueryUnknown terms e.0) c.in_ok-node.ensures (refused_comes c.args.relation rules.UnsupportedForm c.refuse-in-Unknown.result _ c.refuse-in-Unknown.ensures refl))
    (λ is. member_comes terms c.args.expr.now RawExpr-F.SetComparison scope _ _ _ _ (ap (checked_expr terms) is ∙ checked_expr-SetComparison terms) c.in_ok-node.ensures (refused_comes c.args.relation rules.UnsupportedForm c.refuse-in-Unknown.result _ c.refuse-in-Unknown.ensures refl))) c.in-Unknown.is

pub returns-in-Literal : goal.returns-in-Literal
returns-in-Literal g c =
    let terms = c.args.terms.now in
    let scope = over c.args.relation c.args.columns.now in
    member_comes terms c.args.expr.now (RawExpr-F.Literal c.in-Literal.raw) scope _ _ _ _ (ap (checked_expr terms) c.in-Literal.is ∙ checked_expr-Literal terms c.in-Literal.raw) c.in_ok-node.ensures (c.part.ensures c.args.relation (constant_in c.in-Literal.raw) c.constant.ensures)

pub returns-in-Selection : goal.returns-in-Selection
returns-in-Selection g c =
    let terms = c.args.terms.now in
    let scope = over c.args.relation c.args.columns.now in
    member_comes terms c.args.expr.now (RawExpr-F.Selection c.in-Selection.direct_reference c.in-Selection.root_reference c.in-Selection.other) scope _ _ _ _ (ap (checked_expr terms) c.in-Selection.is ∙ checked_expr-Selection terms _ _ _) c.in_ok-node.ensures (c.part-in-Selection.ensures c.args.relation (selection_in c.args.columns.now c.in-Selection.direct_reference c.in-Selection.other) c.selection.ensures)

pub returns-in-ScalarFunction : goal.returns-in-ScalarFunction
returns-in-ScalarFunction g c =
    let terms = c.args.terms.now in
    let scope = over c.args.relation c.args.columns.now in
    let found : Comes c.scalar_function.result (spec.scalar_function terms scope c.in-ScalarFunction.function_reference c.in-ScalarFunction.output_type (map (checked_argument terms) c.in-ScalarFunction.arguments) c.in-ScalarFunction.options c.in_ok-node.progress) = search given in
    member_comes terms c.args.expr.now (RawExpr-F.ScalarFunction c.in-ScalarFunction.function_reference c.in-ScalarFunction.output_type (map (checked_argument terms) c.in-ScalarFunction.arguments) c.in-ScalarFunction.options) scope _ _ _ _ (ap (checked_expr terms) c.in-ScalarFunction.is ∙ checked_expr-ScalarFunction terms _ _ _ _) c.in_ok-node.ensures found

pub returns-in-IfThen : goal.returns-in-IfThen
returns-in-IfThen g c =
    let terms = c.args.terms.now in
    let scope = over c.args.relation c.args.columns.now in
    let found : Comes c.if_then.result (spec.if_then scope (map (checked_clause terms) c.in-IfThen.ifs) (option_map (checked_expr terms) c.in-IfThen.else_) c.in_ok-node.progress) = search given in
    member_comes terms c.args.expr.now (RawExpr-F.IfThen (map (checked_clause terms) c.in-IfThen.ifs) (option_map (checked_expr terms) c.in-IfThen.else_)) scope _ _ _ _ (ap (checked_expr terms) c.in-IfThen.is ∙ checked_expr-IfThen terms _ _) c.in_ok-node.ensures found

pub returns-in-SwitchExpression : goal.returns-in-SwitchExpression
returns-in-SwitchExpression g c =
    let terms = c.args.terms.now in
    let scope = over c.args.relation c.args.columns.now in
    let found : Comes c.switch.result (spec.switch scope (map (checked_arm terms) c.in-SwitchExpression.ifs) (option_map (checked_expr terms) c.in-SwitchExpression.else_) (option_map (checked_expr terms) c.in-SwitchExpression.match_) c.in_ok-node.progress) = search given in
    member_comes terms c.args.expr.now (RawExpr-F.SwitchExpression (map (checked_arm terms) c.in-SwitchExpression.ifs) (option_map (checked_expr terms) c.in-SwitchExpression.else_) (option_map (checked_expr terms) c.in-SwitchExpression.match_)) scope _ _ _ _ (ap (checked_expr terms) c.in-SwitchExpression.is ∙ checked_expr-SwitchExpression terms _ _ _) c.in_ok-node.ensures found

pub returns-in-SingularOrList : goal.returns-in-SingularOrList
returns-in-SingularOrList g c =
    let terms = c.args.terms.now in
    let scope = over c.args.relation c.args.columns.now in
    let found : Comes c.singular_or_list.result (spec.singular_or_list scope (option_map (checked_expr terms) c.in-SingularOrList.value) (map (checked_expr terms) c.in-SingularOrList.options) c.in_ok-node.progress) = search given in
    member_comes terms c.args.expr.now (RawExpr-F.SingularOrList (option_map (checked_expr terms) c.in-SingularOrList.value) (map (checked_expr terms) c.in-SingularOrList.options)) scope _ _ _ _ (ap (checked_expr terms) c.in-SingularOrList.is ∙ checked_expr-SingularOrList terms _ _) c.in_ok-node.ensures found

pub returns-in-Cast : goal.returns-in-Cast
returns-in-Cast g c =
    let terms = c.args.terms.now in
    let scope = over c.args.relation c.args.columns.now in
    member_comes terms c.args.expr.now (RawExpr-F.Cast c.in-Cast.type_ (option_map (checked_expr terms) c.in-Cast.input) c.in-Cast.failure_behavior) scope _ _ _ _ (ap (checked_expr terms) c.in-Cast.is ∙ checked_expr-Cast terms _ _ _) c.in_ok-node.ensures c.cast.ensures

pub returns-in-Scalar : goal.returns-in-Scalar
returns-in-Scalar g c =
    let terms = c.args.terms.now in
    let scope = over c.args.relation c.args.columns.now in
    member_comes terms c.args.expr.now (RawExpr-F.Scalar (option_map (checked_rel terms) c.in-Scalar.input)) scope _ _ _ _ (ap (checked_expr terms) c.in-Scalar.is ∙ checked_expr-Scalar terms _) c.in_ok-node.ensures c.scalar.ensures

pub returns-in-InPredicate : goal.returns-in-InPredicate
returns-in-InPredicate g c =
    let terms = c.args.terms.now in
    let scope = over c.args.relation c.args.columns.now in
    let found : Comes c.in_predicate.result (spec.where_taken terms scope (spec.in_predicate scope c.in_ok-node.node (map (checked_expr terms) c.in-InPredicate.needles) (option_map (checked_rel terms) c.in-InPredicate.haystack)) c.in_ok-node.progress) = search given in
    member_comes terms c.args.expr.now (RawExpr-F.InPredicate (map (checked_expr terms) c.in-InPredicate.needles) (option_map (checked_rel terms) c.in-InPredicate.haystack)) scope _ _ _ _ (ap (checked_expr terms) c.in-InPredicate.is ∙ checked_expr-InPredicate terms _ _) c.in_ok-node.ensures found

pub returns-in-SetPredicate : goal.returns-in-SetPredicate
returns-in-SetPredicate g c =
    let terms = c.args.terms.now in
    let scope = over c.args.relation c.args.columns.now in
    member_comes terms c.args.expr.now (RawExpr-F.SetPredicate c.in-SetPredicate.predicate_op (option_map (checked_rel terms) c.in-SetPredicate.tuples)) scope _ _ _ _ (ap (checked_expr terms) c.in-SetPredicate.is ∙ checked_expr-SetPredicate terms _ _) c.in_ok-node.ensures c.set_predicate.ensures

pub returns-in-SubqueryMissing : goal.returns-in-SubqueryMissing
returns-in-SubqueryMissing g c =
    let terms = c.args.terms.now in
    let scope = over c.args.relation c.args.columns.now in
    member_comes terms c.args.expr.now RawExpr-F.SubqueryMissing scope _ _ _ _ (ap (checked_expr terms) c.in-SubqueryMissing.is ∙ checked_expr-SubqueryMissing terms) c.in_ok-node.ensures (c.without_member.ensures c.args.columns.now)
