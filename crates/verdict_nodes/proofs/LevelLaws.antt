-- What holds of each message of a plan: its checks don't depend on the numbers of nodes. It holds of an expression and its parts
-- where it holds of the messages inside them.
use Rattle.std.proofs.Common.{◌≡◌, ◌∙◌, ℕ, List, Option, map, refl, sym, ap, subst}
use Rattle.std.specs.Option.{option_map}
use Rattle.std.specs.List.{AllByRecursion}
use Rattle.plan_raw.specs.declared.argument.FunctionArgument.{FunctionArgument, FunctionArgument-F, roll-FunctionArgument}
use Rattle.plan_raw.specs.declared.argument.FunctionArgument.TheVariants as a
use Rattle.plan_raw.specs.declared.expr.IfClause.{IfClause-F, roll-IfClause, out-IfClause, out-roll-IfClause}
use Rattle.plan_raw.specs.declared.expr.IfValue.{IfValue-F, roll-IfValue, out-IfValue, out-roll-IfValue}
use Rattle.plan_raw.specs.declared.expr.RawExpr.{RawExpr, RawExpr-F, roll-RawExpr}
use Rattle.plan_raw.specs.declared.expr.RawExpr.TheVariants as e
use Rattle.plan_tree.specs.Fold.{Opened}
use Rattle.plan_typed.specs.declared.expr.Expr.{Expr}
use Rattle.well_typed.specs.WellTyped.{MayBe}
use Rattle.plan_verdict.specs.declared.rule.Rule.TheVariants as rules
use Rattle.plan_verdict.specs.Checking.{Checking, refuse}
use Rattle.plan_verdict.specs.Exprs.{Terms, expression, member, if_clause, scalar, in_predicate, set_predicate}
use Rattle.plan_verdict.specs.Literals.{constant_in}
use Rattle.plan_verdict.specs.References.{selection_in}
use Rattle.plan_verdict.specs.Meaning.{Scope, Expression, Arm, Checked}
use Rattle.plan_verdict.specs.Verdict.{checked_argument, checked_expr, checked_rel, checked_source, checked_function, checked_grouping, checked_measure, checked_sort, checked_clause, checked_arm, checked_row, checked_table}
use Rattle.plan_verdict.proofs.Firsts.{Claims, Shown, maybe_first, all_first, first_argument, first_expr, first_clause, first_value, first-IfThen, first-SwitchExpression, first-SingularOrList, first-Cast, first-Scalar, first-InPredicate, first-SetPredicate, first-IfClause, first-IfValue}
use Rattle.plan_verdict.proofs.FoldLaws.{checked_expr-Missing, checked_expr-Unknown, checked_expr-Literal, checked_expr-Selection, checked_expr-ScalarFunction, checked_expr-IfThen, checked_expr-SwitchExpression, checked_expr-SingularOrList, checked_expr-Cast, checked_expr-SubqueryMissing, checked_expr-SubqueryUnknown, checked_expr-Scalar, checked_expr-InPredicate, checked_expr-SetPredicate, checked_expr-SetComparison, checked_argument-Missing, checked_argument-Enum, checked_argument-TypeArgument, checked_argument-Value, checked_clause-out, checked_arm-out}
use Rattle.verdict_nodes.proofs.AggregateLaws.{IsBlindFunction, IsBlindMeasure, AreBlindSets}
use Rattle.verdict_nodes.specs.Alike.{Alike, IsBlind}
use Rattle.verdict_nodes.proofs.ExprLaws.{IsBlindExpr, IsBlindRel, cast_alike, scalar_function_alike, if_clause_alike, if_then_alike, singular_or_list_alike, switch_alike, scalar_alike, in_predicate_alike, set_predicate_alike, taken_alike}
use Rattle.verdict_nodes.proofs.RelLaws.{IsBlindKey}
use Rattle.verdict_nodes.proofs.RowLaws.{IsBlindTable, IsBlindSource}
use Rattle.verdict_nodes.proofs.Steps.{refused, parted, next_alike}

-- the check of a clause
abbrev pub IsBlindClause : (Scope → Checking (Expr × Expr)) → Type 0
IsBlindClause clause = (scope : Scope) → IsBlind (clause scope)

abbrev pub IsBlindArm : Arm → Type 0
IsBlindArm arm = MayBe IsBlindExpr arm.value

-- what each message is checked as
abbrev pub claims_of : Terms → Claims
claims_of terms = record {
  argument = λ one. MayBe IsBlindExpr (checked_argument terms one);
  expr = λ one. IsBlindExpr (checked_expr terms one);
  count = λ _. Unit {0};
  offset = λ _. Unit {0};
  rel = λ one. IsBlindRel (checked_rel terms one);
  source = λ one. IsBlindSource (checked_source terms one);
  function = λ one. IsBlindFunction (checked_function terms one);
  grouping = λ one. AreBlindSets (checked_grouping terms one);
  measure = λ one. IsBlindMeasure (checked_measure terms one);
  sort = λ one. IsBlindKey (checked_sort terms one);
  clause = λ one. IsBlindClause (checked_clause terms one);
  value = λ one. IsBlindArm (checked_arm terms one);
  row = λ one. AllByRecursion IsBlindExpr (checked_row terms one);
  table = λ one. IsBlindTable (checked_table terms one);
}

module _ (terms : Terms) where
  abbrev claims : Claims
  claims = claims_of terms

  -- a function's argument
  argument_by : {argument : FunctionArgument} {found : Option Expression} (y : Shown claims FunctionArgument-F) → roll-FunctionArgument (first_argument claims y) ≡ argument → checked_argument terms argument ≡ found → MayBe IsBlindExpr found
      → MayBe IsBlindExpr (checked_argument terms (roll-FunctionArgument (first_argument claims y)))
  argument_by y rolls is same_in = subst (MayBe IsBlindExpr) (sym (ap (checked_argument terms) rolls ∙ is)) same_in

  pub argument_level : (y : Shown claims FunctionArgument-F) → MayBe IsBlindExpr (checked_argument terms (roll-FunctionArgument (first_argument claims y)))
  argument_level FunctionArgument-F.«FunctionArgument::Missing» = argument_by FunctionArgument-F.«FunctionArgument::Missing» a.rolls-Missing (checked_argument-Missing terms) tt
  argument_level (FunctionArgument-F.Enum name) = argument_by (FunctionArgument-F.Enum name) (a.rolls-Enum name) (checked_argument-Enum terms name) tt
  argument_level (FunctionArgument-F.TypeArgument type) = argument_by (FunctionArgument-F.TypeArgument type) (a.rolls-TypeArgument type) (checked_argument-TypeArgument terms type) tt
  argument_level (FunctionArgument-F.Value value) = argument_by (FunctionArgument-F.Value value) (a.rolls-Value value.0) (checked_argument-Value terms value.0) value.1

  -- an expression, by its member
  expr_by : {level : Opened RawExpr-F} {expr : RawExpr} (inner : Checked RawExpr-F) (y : Shown claims RawExpr-F) → first_expr claims y ≡ level → roll-RawExpr level ≡ expr → checked_expr terms expr ≡ expression terms inner
      → ((scope : Scope) (m n : ℕ) → Alike (member terms scope m inner) (member terms scope n inner)) → IsBlindExpr (checked_expr terms (roll-RawExpr (first_expr claims y)))
  expr_by inner y same rolls is same_in =
      subst IsBlindExpr (sym (ap (λ l. checked_expr terms (roll-RawExpr l)) same ∙ ap (checked_expr terms) rolls ∙ is))
      (λ scope. next_alike (same_in scope))

  pub maybe_expr : (written : Option ((one : RawExpr) × IsBlindExpr (checked_expr terms one))) → MayBe IsBlindExpr (option_map (checked_expr terms) (option_map (λ one. one.0) written))
  maybe_expr written = maybe_first claims.expr IsBlindExpr (checked_expr terms) written (λ one same. same)

  pub all_exprs : (written : List ((one : RawExpr) × IsBlindExpr (checked_expr terms one))) → AllByRecursion IsBlindExpr (map (checked_expr terms) (map (λ one. one.0) written))
  all_exprs written = all_first claims.expr IsBlindExpr (checked_expr terms) written (λ one same. same)

  pub expr_level : (y : Shown claims RawExpr-F) → IsBlindExpr (checked_expr terms (roll-RawExpr (first_expr claims y)))
  expr_level RawExpr-F.«RawExpr::Missing» = expr_by RawExpr-F.«RawExpr::Missing» RawExpr-F.«RawExpr::Missing» refl e.rolls-Missing (checked_expr-Missing terms) (λ scope m n. refused scope.relation rules.MissingField)
  expr_level (RawExpr-F.«RawExpr::Unknown» number) = expr_by (RawExpr-F.«RawExpr::Unknown» number) (RawExpr-F.«RawExpr::Unknown» number) refl (e.rolls-Unknown number) (checked_expr-Unknown terms number) (λ scope m n. refused scope.relation rules.UnsupportedForm)
  expr_level (RawExpr-F.Literal raw) = expr_by (RawExpr-F.Literal raw) (RawExpr-F.Literal raw) refl (e.rolls-Literal raw) (checked_expr-Literal terms raw) (λ scope m n. parted scope.relation (constant_in raw))
  expr_level (RawExpr-F.Selection direct root other) =
      expr_by (RawExpr-F.Selection direct root other) (RawExpr-F.Selection direct root other) refl (e.rolls-Selection direct root other) (checked_expr-Selection terms direct root other)
      (λ scope m n. parted scope.relation (selection_in scope.columns direct other))
  expr_level (RawExpr-F.ScalarFunction reference output written options) =
      expr_by (RawExpr-F.ScalarFunction reference output (map (checked_argument terms) (map (λ one. one.0) written)) options) (RawExpr-F.ScalarFunction reference output written options) refl (e.rolls-ScalarFunction reference output (map (λ one. one.0) written) options) (checked_expr-ScalarFunction terms reference output (map (λ one. one.0) written) options)
      (λ scope m n. scalar_function_alike scope terms reference output (map (checked_argument terms) (map (λ one. one.0) written)) options (all_first claims.argument (MayBe IsBlindExpr) (checked_argument terms) written (λ one same. same)))
  expr_level (RawExpr-F.IfThen ifs other) =
      let clauses = map (λ one. one.0) ifs in
      let otherwise = option_map (λ one. one.0) other in
      expr_by (RawExpr-F.IfThen (map (checked_clause terms) clauses) (option_map (checked_expr terms) otherwise)) (RawExpr-F.IfThen ifs other) (first-IfThen claims ifs other) (e.rolls-IfThen clauses otherwise) (checked_expr-IfThen terms clauses otherwise)
      (λ scope m n. if_then_alike scope (map (checked_clause terms) clauses) (option_map (checked_expr terms) otherwise)
      (all_first claims.clause (λ clause. IsBlind (clause scope)) (checked_clause terms) ifs (λ one same. same scope)) (maybe_expr other))
  expr_level (RawExpr-F.SwitchExpression ifs other match) =
      let arms = map (λ one. one.0) ifs in
      let otherwise = option_map (λ one. one.0) other in
      let subject = option_map (λ one. one.0) match in
      expr_by (RawExpr-F.SwitchExpression (map (checked_arm terms) arms) (option_map (checked_expr terms) otherwise) (option_map (checked_expr terms) subject)) (RawExpr-F.SwitchExpression ifs other match) (first-SwitchExpression claims ifs other match) (e.rolls-SwitchExpression arms otherwise subject) (checked_expr-SwitchExpression terms arms otherwise subject)
      (λ scope m n. switch_alike scope (map (checked_arm terms) arms) (option_map (checked_expr terms) otherwise) (option_map (checked_expr terms) subject)
      (all_first claims.value IsBlindArm (checked_arm terms) ifs (λ one same. same)) (maybe_expr other) (maybe_expr match))
  expr_level (RawExpr-F.SingularOrList value options) =
      let subject = option_map (λ one. one.0) value in
      let others = map (λ one. one.0) options in
      expr_by (RawExpr-F.SingularOrList (option_map (checked_expr terms) subject) (map (checked_expr terms) others)) (RawExpr-F.SingularOrList value options) (first-SingularOrList claims value options) (e.rolls-SingularOrList subject others) (checked_expr-SingularOrList terms subject others)
      (λ scope m n. singular_or_list_alike scope (option_map (checked_expr terms) subject) (map (checked_expr terms) others) (maybe_expr value) (all_exprs options))
  expr_level (RawExpr-F.Cast type input failure) =
      let inner = option_map (λ one. one.0) input in
      expr_by (RawExpr-F.Cast type (option_map (checked_expr terms) inner) failure) (RawExpr-F.Cast type input failure) (first-Cast claims type input failure) (e.rolls-Cast type inner failure) (checked_expr-Cast terms type inner failure)
      (λ scope m n. cast_alike scope type (option_map (checked_expr terms) inner) failure (maybe_expr input))
  expr_level RawExpr-F.SubqueryMissing =
      expr_by RawExpr-F.SubqueryMissing RawExpr-F.SubqueryMissing refl e.rolls-SubqueryMissing (checked_expr-SubqueryMissing terms) (λ scope m n. taken_alike scope terms (refuse scope.relation rules.MissingField) (refuse scope.relation rules.MissingField) (refused scope.relation rules.MissingField))
  expr_level (RawExpr-F.SubqueryUnknown number) = expr_by (RawExpr-F.SubqueryUnknown number) (RawExpr-F.SubqueryUnknown number) refl (e.rolls-SubqueryUnknown number) (checked_expr-SubqueryUnknown terms number) (λ scope m n. refused scope.relation rules.UnsupportedForm)
  expr_level (RawExpr-F.Scalar input) =
      let inner = option_map (λ one. one.0) input in
      let relation = option_map (checked_rel terms) inner in
      expr_by (RawExpr-F.Scalar relation) (RawExpr-F.Scalar input) (first-Scalar claims input) (e.rolls-Scalar inner) (checked_expr-Scalar terms inner)
      (λ scope m n. taken_alike scope terms (scalar scope m relation) (scalar scope n relation) (scalar_alike scope m n relation (maybe_first claims.rel IsBlindRel (checked_rel terms) input (λ one same. same))))
  expr_level (RawExpr-F.InPredicate needles haystack) =
      let inner = option_map (λ one. one.0) haystack in
      let relation = option_map (checked_rel terms) inner in
      let exprs = map (λ one. one.0) needles in
      expr_by (RawExpr-F.InPredicate (map (checked_expr terms) exprs) relation) (RawExpr-F.InPredicate needles haystack) (first-InPredicate claims needles haystack) (e.rolls-InPredicate exprs inner) (checked_expr-InPredicate terms exprs inner)
      (λ scope m n. taken_alike scope terms (in_predicate scope m (map (checked_expr terms) exprs) relation) (in_predicate scope n (map (checked_expr terms) exprs) relation)
      (in_predicate_alike scope m n (map (checked_expr terms) exprs) relation (all_exprs needles) (maybe_first claims.rel IsBlindRel (checked_rel terms) haystack (λ one same. same))))
  expr_level (RawExpr-F.SetPredicate predicate tuples) =
      let inner = option_map (λ one. one.0) tuples in
      let relation = option_map (checked_rel terms) inner in
      expr_by (RawExpr-F.SetPredicate predicate relation) (RawExpr-F.SetPredicate predicate tuples) (first-SetPredicate claims predicate tuples) (e.rolls-SetPredicate predicate inner) (checked_expr-SetPredicate terms predicate inner)
      (λ scope m n. taken_alike scope terms (set_predicate scope m predicate relation) (set_predicate scope n predicate relation) (set_predicate_alike scope m n predicate relation (maybe_first claims.rel IsBlindRel (checked_rel terms) tuples (λ one same. same))))
  expr_level RawExpr-F.SetComparison = expr_by RawExpr-F.SetComparison RawExpr-F.SetComparison refl e.rolls-SetComparison (checked_expr-SetComparison terms) (λ scope m n. refused scope.relation rules.UnsupportedForm)

  -- IfClause and IfValue
  pub clause_level : (y : Shown claims IfClause-F) → IsBlindClause (checked_clause terms (roll-IfClause (first_clause claims y)))
  clause_level y =
      let when = option_map (λ one. one.0) y.if_ in
      let value = option_map (λ one. one.0) y.«then» in
      let rolled = roll-IfClause (first_clause claims y) in
      let opened : out-IfClause rolled ≡ record { if_ = when; «then» = value } = out-roll-IfClause (first_clause claims y) ∙ first-IfClause claims y.if_ y.«then» in
      subst IsBlindClause (sym (checked_clause-out terms rolled ∙ ap (λ (l : Opened IfClause-F). if_clause (option_map (checked_expr terms) l.if_) (option_map (checked_expr terms) l.«then»)) opened))
      (λ scope. if_clause_alike scope (option_map (checked_expr terms) when) (option_map (checked_expr terms) value) (maybe_expr y.if_) (maybe_expr y.«then»))

  pub value_level : (y : Shown claims IfValue-F) → IsBlindArm (checked_arm terms (roll-IfValue (first_value claims y)))
  value_level y =
      let value = option_map (λ one. one.0) y.«then» in
      let rolled = roll-IfValue (first_value claims y) in
      let opened : out-IfValue rolled ≡ record { if_ = y.if_; «then» = value } = out-roll-IfValue (first_value claims y) ∙ first-IfValue claims y.if_ y.«then» in
      subst (MayBe IsBlindExpr) (sym (ap (λ (arm : Arm). arm.value) (checked_arm-out terms rolled) ∙ ap (λ (l : Opened IfValue-F). option_map (checked_expr terms) l.«then») opened)) (maybe_expr y.«then»)
