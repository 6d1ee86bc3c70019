-- What holds of each message of a plan, and that it holds of an expression and its parts where it holds of the messages inside them.
use Rattle.std.proofs.Common.{◌≡◌, ◌∙◌, ℕ, List, Option, map, refl, sym, ap, subst}
use Rattle.std.specs.Option.{option_map}
use Rattle.std.specs.List.{AllByRecursion}
use Rattle.plan_raw.specs.declared.argument.FunctionArgument.{FunctionArgument, FunctionArgument-F, roll-FunctionArgument}
use Rattle.plan_raw.specs.declared.argument.FunctionArgument.TheVariants as a
use Rattle.plan_raw.specs.declared.expr.IfClause.{IfClause-F, roll-IfClause, out-IfClause, out-roll-IfClause}
use Rattle.plan_raw.specs.declared.expr.IfValue.{IfValue-F, roll-IfValue, out-IfValue, out-roll-IfValue}
use Rattle.plan_raw.specs.declared.expr.RawExpr.{RawExpr, RawExpr-F, roll-RawExpr}
use Rattle.plan_raw.specs.declared.expr.RawExpr.TheVariants as e
use Rattle.plan_tree.specs.Fold.{Opened}
use Rattle.plan_typed.specs.declared.expr.Expr.{Expr}
use Rattle.well_typed.specs.ExprTyped.{IsTypedOver}
use Rattle.well_typed.specs.WellTyped.{MayBe, IsConditionOver}
use Rattle.well_typed.proofs.ValidKinds.{AreKinds}
use Rattle.plan_verdict.specs.declared.rule.Rule.TheVariants as rules
use Rattle.plan_verdict.specs.Checking.{Checking, refuse}
use Rattle.plan_verdict.specs.Exprs.{Terms, expression, member, if_clause, scalar, in_predicate, set_predicate}
use Rattle.plan_verdict.specs.Literals.{constant_in}
use Rattle.plan_verdict.specs.Meaning.{Scope, Expression, Arm, Checked}
use Rattle.plan_verdict.specs.References.{selection_in}
use Rattle.plan_verdict.specs.Verdict.{checked_argument, checked_expr, checked_rel, checked_source, checked_function, checked_grouping, checked_measure, checked_sort, checked_clause, checked_arm, checked_row, checked_table}
use Rattle.plan_verdict.proofs.AggregateLaws.{IsSoundFunction, IsSoundMeasure}
use Rattle.plan_verdict.proofs.ExprLaws.{IsSoundExpr, cast_sound, scalar_function_sound, if_clause_sound, if_then_sound, singular_or_list_sound, switch_sound, constant_sound, selection_sound}
use Rattle.plan_verdict.proofs.Firsts.{Claims, Shown, maybe_first, all_first, first_argument, first_expr, first_clause, first_value, first-IfThen, first-SwitchExpression, first-SingularOrList, first-Cast, first-Scalar, first-InPredicate, first-SetPredicate, first-IfClause, first-IfValue}
use Rattle.plan_verdict.proofs.FoldLaws.{checked_expr-Missing, checked_expr-Unknown, checked_expr-Literal, checked_expr-Selection, checked_expr-ScalarFunction, checked_expr-IfThen, checked_expr-SwitchExpression, checked_expr-SingularOrList, checked_expr-Cast, checked_expr-SubqueryMissing, checked_expr-SubqueryUnknown, checked_expr-Scalar, checked_expr-InPredicate, checked_expr-SetPredicate, checked_expr-SetComparison, checked_argument-Missing, checked_argument-Enum, checked_argument-TypeArgument, checked_argument-Value, checked_clause-out, checked_arm-out}
use Rattle.plan_verdict.proofs.GroupLaws.{AreSoundSets}
use Rattle.plan_verdict.proofs.NumberLaws.{IsSoundRel, scalar_sound, in_predicate_sound, set_predicate_sound, taken_sound}
use Rattle.plan_verdict.proofs.RelLaws.{IsSoundKey}
use Rattle.plan_verdict.proofs.RowLaws.{IsSoundTable, IsSoundSource}
use Rattle.plan_verdict.proofs.Sound.{Quiet, refused, parted, next_sound}

-- a clause gives a condition and a well-typed value
abbrev pub IsSoundClause : (Scope → Checking (Expr × Expr)) → Type 0
IsSoundClause clause = (scope : Scope) → AreKinds scope.columns → Quiet (λ (arm : Expr × Expr). IsConditionOver scope.columns arm.0 × IsTypedOver scope.columns arm.1) (clause scope)

abbrev pub IsSoundArm : Arm → Type 0
IsSoundArm arm = MayBe IsSoundExpr arm.value

-- what each message is checked as gives what is well typed
abbrev pub claims_of : Terms → Claims
claims_of terms = record {
  argument = λ one. MayBe IsSoundExpr (checked_argument terms one);
  expr = λ one. IsSoundExpr (checked_expr terms one);
  count = λ _. Unit {0};
  offset = λ _. Unit {0};
  rel = λ one. IsSoundRel (checked_rel terms one);
  source = λ one. IsSoundSource (checked_source terms one);
  function = λ one. IsSoundFunction (checked_function terms one);
  grouping = λ one. AreSoundSets (checked_grouping terms one);
  measure = λ one. IsSoundMeasure (checked_measure terms one);
  sort = λ one. IsSoundKey (checked_sort terms one);
  clause = λ one. IsSoundClause (checked_clause terms one);
  value = λ one. IsSoundArm (checked_arm terms one);
  row = λ one. AllByRecursion IsSoundExpr (checked_row terms one);
  table = λ one. IsSoundTable (checked_table terms one);
}

module _ (terms : Terms) where
  abbrev claims : Claims
  claims = claims_of terms

  -- a function's argument
  argument_by : {argument : FunctionArgument} {found : Option Expression} (y : Shown claims FunctionArgument-F) → roll-FunctionArgument (first_argument claims y) ≡ argument → checked_argument terms argument ≡ found → MayBe IsSoundExpr found
      → MayBe IsSoundExpr (checked_argument terms (roll-FunctionArgument (first_argument claims y)))
  argument_by y rolls is sound = subst (MayBe IsSoundExpr) (sym (ap (checked_argument terms) rolls ∙ is)) sound

  pub argument_level : (y : Shown claims FunctionArgument-F) → MayBe IsSoundExpr (checked_argument terms (roll-FunctionArgument (first_argument claims y)))
  argument_level FunctionArgument-F.«FunctionArgument::Missing» = argument_by FunctionArgument-F.«FunctionArgument::Missing» a.rolls-Missing (checked_argument-Missing terms) tt
  argument_level (FunctionArgument-F.Enum name) = argument_by (FunctionArgument-F.Enum name) (a.rolls-Enum name) (checked_argument-Enum terms name) tt
  argument_level (FunctionArgument-F.TypeArgument type) = argument_by (FunctionArgument-F.TypeArgument type) (a.rolls-TypeArgument type) (checked_argument-TypeArgument terms type) tt
  argument_level (FunctionArgument-F.Value value) = argument_by (FunctionArgument-F.Value value) (a.rolls-Value value.0) (checked_argument-Value terms value.0) value.1

  -- an expression, by its member
  expr_by : {level : Opened RawExpr-F} {expr : RawExpr} (inner : Checked RawExpr-F) (y : Shown claims RawExpr-F) → first_expr claims y ≡ level → roll-RawExpr level ≡ expr → checked_expr terms expr ≡ expression terms inner
      → ((scope : Scope) → AreKinds scope.columns → (node : ℕ) → Quiet (IsTypedOver scope.columns) (member terms scope node inner)) → IsSoundExpr (checked_expr terms (roll-RawExpr (first_expr claims y)))
  expr_by inner y same rolls is sound =
      subst IsSoundExpr (sym (ap (λ l. checked_expr terms (roll-RawExpr l)) same ∙ ap (checked_expr terms) rolls ∙ is))
      (λ scope valid extra. next_sound (IsTypedOver scope.columns) (λ _. extra) extra (λ node. member terms scope node inner) (λ node. sound scope valid node extra))

  refused_sound : (scope : Scope) (rule : _) → Quiet (IsTypedOver scope.columns) (refuse scope.relation rule)
  refused_sound scope rule extra = refused (IsTypedOver scope.columns) (λ _. extra) extra scope.relation rule

  pub maybe_expr : (written : Option ((one : RawExpr) × IsSoundExpr (checked_expr terms one))) → MayBe IsSoundExpr (option_map (checked_expr terms) (option_map (λ one. one.0) written))
  maybe_expr written = maybe_first claims.expr IsSoundExpr (checked_expr terms) written (λ one sound. sound)

  pub all_exprs : (written : List ((one : RawExpr) × IsSoundExpr (checked_expr terms one))) → AllByRecursion IsSoundExpr (map (checked_expr terms) (map (λ one. one.0) written))
  all_exprs written = all_first claims.expr IsSoundExpr (checked_expr terms) written (λ one sound. sound)

  pub expr_level : (y : Shown claims RawExpr-F) → IsSoundExpr (checked_expr terms (roll-RawExpr (first_expr claims y)))
  expr_level RawExpr-F.«RawExpr::Missing» = expr_by RawExpr-F.«RawExpr::Missing» RawExpr-F.«RawExpr::Missing» refl e.rolls-Missing (checked_expr-Missing terms) (λ scope valid node. refused_sound scope rules.MissingField)
  expr_level (RawExpr-F.«RawExpr::Unknown» number) = expr_by (RawExpr-F.«RawExpr::Unknown» number) (RawExpr-F.«RawExpr::Unknown» number) refl (e.rolls-Unknown number) (checked_expr-Unknown terms number) (λ scope valid node. refused_sound scope rules.UnsupportedForm)
  expr_level (RawExpr-F.Literal raw) = expr_by (RawExpr-F.Literal raw) (RawExpr-F.Literal raw) refl (e.rolls-Literal raw) (checked_expr-Literal terms raw) (λ scope valid node extra. parted (IsTypedOver scope.columns) extra scope.relation (constant_in raw) (constant_sound scope valid raw))
  expr_level (RawExpr-F.Selection direct root other) =
      expr_by (RawExpr-F.Selection direct root other) (RawExpr-F.Selection direct root other) refl (e.rolls-Selection direct root other) (checked_expr-Selection terms direct root other)
      (λ scope valid node extra. parted (IsTypedOver scope.columns) extra scope.relation (selection_in scope.columns direct other) (selection_sound scope valid direct other))
  expr_level (RawExpr-F.ScalarFunction reference output written options) =
      expr_by (RawExpr-F.ScalarFunction reference output (map (checked_argument terms) (map (λ one. one.0) written)) options) (RawExpr-F.ScalarFunction reference output written options) refl (e.rolls-ScalarFunction reference output (map (λ one. one.0) written) options) (checked_expr-ScalarFunction terms reference output (map (λ one. one.0) written) options)
      (λ scope valid node. scalar_function_sound scope valid terms reference output (map (checked_argument terms) (map (λ one. one.0) written)) options (all_first claims.argument (MayBe IsSoundExpr) (checked_argument terms) written (λ one sound. sound)))
  expr_level (RawExpr-F.IfThen ifs other) =
      let clauses = map (λ one. one.0) ifs in
      let otherwise = option_map (λ one. one.0) other in
      expr_by (RawExpr-F.IfThen (map (checked_clause terms) clauses) (option_map (checked_expr terms) otherwise)) (RawExpr-F.IfThen ifs other) (first-IfThen claims ifs other) (e.rolls-IfThen clauses otherwise) (checked_expr-IfThen terms clauses otherwise)
      (λ scope valid node. if_then_sound scope valid (map (checked_clause terms) clauses) (option_map (checked_expr terms) otherwise)
      (all_first claims.clause (λ clause. Quiet (λ (arm : Expr × Expr). IsConditionOver scope.columns arm.0 × IsTypedOver scope.columns arm.1) (clause scope)) (checked_clause terms) ifs (λ one sound. sound scope valid)) (maybe_expr other))
  expr_level (RawExpr-F.SwitchExpression ifs other match) =
      let arms = map (λ one. one.0) ifs in
      let otherwise = option_map (λ one. one.0) other in
      let subject = option_map (λ one. one.0) match in
      expr_by (RawExpr-F.SwitchExpression (map (checked_arm terms) arms) (option_map (checked_expr terms) otherwise) (option_map (checked_expr terms) subject)) (RawExpr-F.SwitchExpression ifs other match) (first-SwitchExpression claims ifs other match) (e.rolls-SwitchExpression arms otherwise subject) (checked_expr-SwitchExpression terms arms otherwise subject)
      (λ scope valid node. switch_sound scope valid (map (checked_arm terms) arms) (option_map (checked_expr terms) otherwise) (option_map (checked_expr terms) subject)
      (all_first claims.value IsSoundArm (checked_arm terms) ifs (λ one sound. sound)) (maybe_expr other) (maybe_expr match))
  expr_level (RawExpr-F.SingularOrList value options) =
      let subject = option_map (λ one. one.0) value in
      let others = map (λ one. one.0) options in
      expr_by (RawExpr-F.SingularOrList (option_map (checked_expr terms) subject) (map (checked_expr terms) others)) (RawExpr-F.SingularOrList value options) (first-SingularOrList claims value options) (e.rolls-SingularOrList subject others) (checked_expr-SingularOrList terms subject others)
      (λ scope valid node. singular_or_list_sound scope valid (option_map (checked_expr terms) subject) (map (checked_expr terms) others) (maybe_expr value) (all_exprs options))
  expr_level (RawExpr-F.Cast type input failure) =
      let inner = option_map (λ one. one.0) input in
      expr_by (RawExpr-F.Cast type (option_map (checked_expr terms) inner) failure) (RawExpr-F.Cast type input failure) (first-Cast claims type input failure) (e.rolls-Cast type inner failure) (checked_expr-Cast terms type inner failure)
      (λ scope valid node. cast_sound scope valid type (option_map (checked_expr terms) inner) failure (maybe_expr input))
  expr_level RawExpr-F.SubqueryMissing =
      expr_by RawExpr-F.SubqueryMissing RawExpr-F.SubqueryMissing refl e.rolls-SubqueryMissing (checked_expr-SubqueryMissing terms) (λ scope valid node. taken_sound scope valid terms (refuse scope.relation rules.MissingField) (refused_sound scope rules.MissingField))
  expr_level (RawExpr-F.SubqueryUnknown number) = expr_by (RawExpr-F.SubqueryUnknown number) (RawExpr-F.SubqueryUnknown number) refl (e.rolls-SubqueryUnknown number) (checked_expr-SubqueryUnknown terms number) (λ scope valid node. refused_sound scope rules.UnsupportedForm)
  expr_level (RawExpr-F.Scalar input) =
      let inner = option_map (λ one. one.0) input in
      let relation = option_map (checked_rel terms) inner in
      expr_by (RawExpr-F.Scalar relation) (RawExpr-F.Scalar input) (first-Scalar claims input) (e.rolls-Scalar inner) (checked_expr-Scalar terms inner)
      (λ scope valid node. taken_sound scope valid terms (scalar scope node relation) (scalar_sound scope valid node relation (maybe_first claims.rel IsSoundRel (checked_rel terms) input (λ one sound. sound))))
  expr_level (RawExpr-F.InPredicate needles haystack) =
      let inner = option_map (λ one. one.0) haystack in
      let relation = option_map (checked_rel terms) inner in
      let exprs = map (λ one. one.0) needles in
      expr_by (RawExpr-F.InPredicate (map (checked_expr terms) exprs) relation) (RawExpr-F.InPredicate needles haystack) (first-InPredicate claims needles haystack) (e.rolls-InPredicate exprs inner) (checked_expr-InPredicate terms exprs inner)
      (λ scope valid node. taken_sound scope valid terms (in_predicate scope node (map (checked_expr terms) exprs) relation)
      (in_predicate_sound scope valid node (map (checked_expr terms) exprs) relation (all_exprs needles) (maybe_first claims.rel IsSoundRel (checked_rel terms) haystack (λ one sound. sound))))
  expr_level (RawExpr-F.SetPredicate predicate tuples) =
      let inner = option_map (λ one. one.0) tuples in
      let relation = option_map (checked_rel terms) inner in
      expr_by (RawExpr-F.SetPredicate predicate relation) (RawExpr-F.SetPredicate predicate tuples) (first-SetPredicate claims predicate tuples) (e.rolls-SetPredicate predicate inner) (checked_expr-SetPredicate terms predicate inner)
      (λ scope valid node. taken_sound scope valid terms (set_predicate scope node predicate relation) (set_predicate_sound scope valid node predicate relation (maybe_first claims.rel IsSoundRel (checked_rel terms) tuples (λ one sound. sound))))
  expr_level RawExpr-F.SetComparison = expr_by RawExpr-F.SetComparison RawExpr-F.SetComparison refl e.rolls-SetComparison (checked_expr-SetComparison terms) (λ scope valid node. refused_sound scope rules.UnsupportedForm)

  -- IfClause and IfValue
  pub clause_level : (y : Shown claims IfClause-F) → IsSoundClause (checked_clause terms (roll-IfClause (first_clause claims y)))
  clause_level y =
      let when = option_map (λ one. one.0) y.if_ in
      let value = option_map (λ one. one.0) y.«then» in
      let rolled = roll-IfClause (first_clause claims y) in
      let opened : out-IfClause rolled ≡ record { if_ = when; «then» = value } = out-roll-IfClause (first_clause claims y) ∙ first-IfClause claims y.if_ y.«then» in
      subst IsSoundClause (sym (checked_clause-out terms rolled ∙ ap (λ (l : Opened IfClause-F). if_clause (option_map (checked_expr terms) l.if_) (option_map (checked_expr terms) l.«then»)) opened))
      (λ scope valid. if_clause_sound scope valid (option_map (checked_expr terms) when) (option_map (checked_expr terms) value) (maybe_expr y.if_) (maybe_expr y.«then»))

  pub value_level : (y : Shown claims IfValue-F) → IsSoundArm (checked_arm terms (roll-IfValue (first_value claims y)))
  value_level y =
      let value = option_map (λ one. one.0) y.«then» in
      let rolled = roll-IfValue (first_value claims y) in
      let opened : out-IfValue rolled ≡ record { if_ = y.if_; «then» = value } = out-roll-IfValue (first_value claims y) ∙ first-IfValue claims y.if_ y.«then» in
      subst (MayBe IsSoundExpr) (sym (ap (λ (arm : Arm). arm.value) (checked_arm-out terms rolled) ∙ ap (λ (l : Opened IfValue-F). option_map (checked_expr terms) l.«then») opened)) (maybe_expr y.«then»)
