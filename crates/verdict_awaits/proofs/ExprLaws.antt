-- The checks of expressions number their nodes, and the holes of the subqueries in them await these.
use Rattle.std.proofs.Common.{◌≡◌, ◌∙◌, ℕ, ℤ, pos, negsuc, List, [], ◌∷◌, ◌++◌, Bool, true, Option, Some, None, Result, Ok, ◌||◌, ◌==◌, map, slice_get, length, refl, sym, ap, arith}
use Rattle.std.specs.Option.{ok_or, option_map}
use Rattle.std.specs.Prelude.{nat_le, not, ◌&&◌, is_some}
use Rattle.std.specs.List.{AllByRecursion, zip, flat_map}
use Rattle.std.proofs.lemmas.List.{append_assoc}
use Rattle.sub_types.specs.declared.kind.Kind.{Kind}
use Rattle.sub_types.specs.declared.kind.Kind.TheVariants as kinds
use Rattle.sub_types.specs.declared.kind.Ty.{Ty}
use Rattle.sub_types.specs.declared.value.Value.{Value}
use Rattle.sub_types.specs.declared.value.Value.TheVariants as values
use Rattle.plan_leaves.specs.declared.literal.RawLiteral.{RawLiteral}
use Rattle.plan_leaves.specs.declared.options.FunctionOption.{FunctionOption}
use Rattle.plan_leaves.specs.declared.reference.ReferenceSegment.{ReferenceSegment}
use Rattle.plan_leaves.specs.declared.types.RawType.{RawType}
use Rattle.plan_typed.specs.declared.expr.Expr.{Expr}
use Rattle.plan_typed.specs.declared.expr.Expr.TheVariants as exprs
use Rattle.plan_typed.specs.Types.{ty_of}
use Rattle.func_table.specs.declared.row.Class.TheVariants.{Scalar}
use Rattle.func_table.specs.Kinds.{is_equal}
use Rattle.well_typed.specs.Casts.{can_cast}
use Rattle.well_typed.specs.ExprTyped.{IsOfKind}
use Rattle.well_typed.specs.Types.{kind_of, type_with, some_nullable}
use Rattle.well_typed.specs.WellTyped.{MayBe}
use Rattle.denote_typed.specs.Holes.{Slot, OfNone, slots_of}
use Rattle.plan_verdict.specs.declared.rule.Rule.{Rule}
use Rattle.plan_verdict.specs.declared.rule.Rule.TheVariants as rules
use Rattle.plan_verdict.specs.Calls.{named_in, call_in}
use Rattle.plan_verdict.specs.Checking.{Checking, refuse, part, next_node, ◌>>=◌}
use Rattle.plan_verdict.specs.Exprs.{Terms, required, condition, option_of_kind, singular_or_list, cast, argument, arguments, scalar_function, null_of, otherwise, are_alike, first_kind, type_among, if_clause, if_then, switch}
use Rattle.plan_verdict.specs.Lists.{is_empty}
use Rattle.plan_verdict.specs.Literals.{literal_in, constant_in, values_of_kind}
use Rattle.plan_verdict.specs.Meaning.{Scope, Expression, Arm}
use Rattle.plan_verdict.specs.References.{direct_field, column_of, selection_in}
use Rattle.plan_verdict.specs.Types.{type_in}
use Rattle.plan_verdict.proofs.LiteralLaws.{values_fit}
use Rattle.plan_verdict.proofs.RelLaws.{anything_given}
use Rattle.plan_verdict.proofs.Sound.{Given, given_then, given_ok_or, AllOf, length_mapped}
use Rattle.verdict_awaits.proofs.Nodes.{AwaitsOwn, Inner, next_grows}
use Rattle.verdict_awaits.proofs.Parts.{Part, nothing, with_slots, slots_alone, same_part}
use Rattle.verdict_awaits.proofs.Slots.{own_of, rest_of, later_slots, split_slots, slots_of_arms, slots_of_choices, slots-Const, slots-Column, slots-Call, slots-If, slots-Switch, slots-OneOf, slots-Cast}
use Rattle.verdict_awaits.proofs.Waits.{Waits, Grows, none, Any, then, and_then, accepted, refused, parted_with, parted, tested, found, each_grows, restated, respelled}

-- the check of an expression numbers its nodes
abbrev pub IsWaitingExpr : Expression → Type 0
IsWaitingExpr written = (scope : Scope) → Grows scope.relation Any slots_of (written.check scope)

-- the nodes of a clause
abbrev pub slots_of_arm : Expr × Expr → List Slot
slots_of_arm arm = slots_of arm.0 ++ slots_of arm.1

pub any_option : {A : Type 0} (o : Option A) → MayBe (λ _. Unit {0}) o
any_option (Some x) = tt
any_option None = tt

-- the values of choices are those of the arms
choices_are : (literals : List Value) (results : List Expr) → length literals ≡ length results → slots_of_choices (zip literals results) ≡ flat_map slots_of results
choices_are [] [] e = refl
choices_are [] (y ∷ ys) e = absurd (omega (arith, e))
choices_are (x ∷ xs) [] e = absurd (omega (arith, e))
choices_are (x ∷ xs) (y ∷ ys) e = ap (λ l. slots_of y ++ l) (choices_are xs ys (omega (arith, e)))

module _ (scope : Scope) where
  -- a check of what is inside an expression's own node
  abbrev pub InsideNode : ℕ → Checking Expr → Type 0
  InsideNode node check = Inner scope.relation own_of rest_of node check

  abbrev pub inside : Expr → Part
  inside expr = slots_alone (rest_of expr)

  -- an expression is numbered before those inside it
  pub numbered_waits : (check : ℕ → Checking Expr) → ((node : ℕ) → InsideNode node (check node)) → Grows scope.relation Any slots_of (next_node >>= check)
  numbered_waits check s = respelled scope.relation Any (λ expr. own_of expr ∷ rest_of expr) slots_of (next_node >>= check) split_slots (next_grows scope.relation own_of rest_of check s)

  -- what is made of these nodes
  pub made : (node : ℕ) (expr : Expr) (slots : List Slot) (own : Slot) → slots_of expr ≡ own ∷ slots → Waits scope.relation (AwaitsOwn own_of node) Any inside (slots_alone slots) (λ progress. Ok (expr, progress))
  made node expr slots own is = accepted scope.relation (AwaitsOwn own_of node) Any inside (slots_alone slots) expr tt (ap (λ l. slots_alone (later_slots l)) is)

  pub refused_inside : (node : ℕ) (rule : Rule) → InsideNode node (refuse scope.relation rule)
  refused_inside node rule = refused scope.relation (AwaitsOwn own_of node) Any inside nothing scope.relation rule

  pub required_waits : (written : Option Expression) → MayBe IsWaitingExpr written → Grows scope.relation Any slots_of (required scope written)
  required_waits (Some one) ok start = ok scope start
  required_waits None ok start = refused scope.relation none Any (λ expr. with_slots start (slots_of expr)) start scope.relation _

  pub condition_waits : (written : Option Expression) → MayBe IsWaitingExpr written → Grows scope.relation Any slots_of (condition scope written)
  condition_waits written ok start =
      then (required_waits written ok start) (λ expr _.
      let now = with_slots start (slots_of expr) in
      and_then (tested scope.relation scope.relation (is_equal (kind_of expr) kinds.Bool) rules.TypeMismatch now) (λ _ _.
      accepted scope.relation none Any (λ one. with_slots start (slots_of one)) now expr tt refl))

  pub cast_waits : (node : ℕ) (type : Option RawType) (input : Option Expression) (failure : ℕ) → MayBe IsWaitingExpr input → InsideNode node (cast scope type input failure)
  cast_waits node type input failure ok =
      then (found scope.relation Any scope.relation type (any_option type) nothing) (λ raw _.
      then (required_waits input ok nothing) (λ expr _.
      let now = slots_alone (slots_of expr) in
      then (parted scope.relation Any scope.relation (type_in raw) (anything_given (type_in raw)) now) (λ ty _.
      and_then (tested scope.relation scope.relation (can_cast (kind_of expr) ty.kind) rules.BadArguments now) (λ _ _.
      and_then (tested scope.relation scope.relation (nat_le failure 2) rules.UnsupportedForm now) (λ _ _.
      let type = type_with ty.kind ((ty_of expr).nullable || failure == 1) in
      made node (exprs.Cast expr (failure == 1) type) (slots_of expr) _ (slots-Cast expr (failure == 1) type))))))

  -- the arguments of a function
  argument_waits : (written : Option Expression) → MayBe IsWaitingExpr written → Grows scope.relation Any slots_of (argument scope written)
  argument_waits (Some one) ok start = ok scope start
  argument_waits None ok start = refused scope.relation none Any (λ expr. with_slots start (slots_of expr)) start scope.relation _

  pub arguments_wait : (written : List (Option Expression)) → AllByRecursion (MayBe IsWaitingExpr) written → Grows scope.relation (AllOf Any (length written)) (flat_map slots_of) (arguments scope written)
  arguments_wait written all = each_grows scope.relation Any slots_of (MayBe IsWaitingExpr) (argument scope) written all argument_waits

  pub scalar_function_waits : (node : ℕ) (terms : Terms) (reference : ℕ) (output : Option RawType) (written : List (Option Expression)) (options : List FunctionOption) → AllByRecursion (MayBe IsWaitingExpr) written
      → InsideNode node (scalar_function terms scope reference output written options)
  scalar_function_waits node terms reference output written options all =
      then (parted scope.relation Any scope.relation (named_in terms.declared Scalar reference) (anything_given (named_in terms.declared Scalar reference)) nothing) (λ named _.
      then (arguments_wait written all nothing) (λ args _.
      then (parted scope.relation Any scope.relation (call_in named Scalar (map ty_of args) output options) (anything_given (call_in named Scalar (map ty_of args) output options)) (slots_alone (flat_map slots_of args))) (λ call _.
      made node (exprs.Call call.func call.mode args call.ty) (flat_map slots_of args) _ (slots-Call call.func call.mode args call.ty))))

  otherwise_waits : (kind : Kind) (written : Option Expression) → MayBe IsWaitingExpr written → Grows scope.relation Any slots_of (otherwise scope kind written)
  otherwise_waits kind (Some one) ok = ok scope
  otherwise_waits kind None ok = numbered_waits (λ node progress. Ok (null_of kind, progress)) (λ node. made node (null_of kind) [] _ (slots-Const values.Null (type_with kind true)))

  pub if_clause_waits : (when value : Option Expression) → MayBe IsWaitingExpr when → MayBe IsWaitingExpr value → Grows scope.relation Any slots_of_arm (if_clause when value scope)
  if_clause_waits when value ok ok' start =
      then (condition_waits when ok start) (λ test _.
      then (required_waits value ok' (with_slots start (slots_of test))) (λ result _.
      let now = with_slots (with_slots start (slots_of test)) (slots_of result) in
      accepted scope.relation none Any (λ arm. with_slots start (slots_of_arm arm)) now (test, result) tt
      (same_part (with_slots start (slots_of test ++ slots_of result)) now (sym (append_assoc start.slots (slots_of test) (slots_of result))) refl)))

  pub if_then_waits : (node : ℕ) (ifs : List (Scope → Checking (Expr × Expr))) (other_arm : Option Expression) → AllByRecursion (λ clause. Grows scope.relation Any slots_of_arm (clause scope)) ifs → MayBe IsWaitingExpr other_arm
      → InsideNode node (if_then scope ifs other_arm)
  if_then_waits node ifs other_arm all ok =
      and_then (tested scope.relation scope.relation (not (is_empty ifs)) rules.MissingField nothing) (λ _ _.
      then (each_grows scope.relation Any slots_of_arm (λ clause. Grows scope.relation Any slots_of_arm (clause scope)) (λ clause. clause scope) ifs all (λ clause q. q) nothing) (λ arms _.
      let results = map (λ (arm : Expr × Expr). arm.1) arms in
      then (otherwise_waits (first_kind results) other_arm ok (slots_alone (slots_of_arms arms))) (λ other _.
      let now = slots_of_arms arms ++ slots_of other in
      let type = type_among (results ++ other ∷ []) in
      and_then (tested scope.relation scope.relation (are_alike (results ++ other ∷ [])) rules.TypeMismatch (slots_alone now)) (λ _ _.
      made node (exprs.If arms other type) now _ (slots-If arms other type)))))

  -- a list of options
  option_waits : (kind : Kind) (written : Expression) → IsWaitingExpr written → Grows scope.relation Any slots_of (option_of_kind scope kind written)
  option_waits kind written ok start =
      then (ok scope start) (λ expr _.
      let now = with_slots start (slots_of expr) in
      and_then (tested scope.relation scope.relation (is_equal (kind_of expr) kind) rules.TypeMismatch now) (λ _ _.
      accepted scope.relation none Any (λ one. with_slots start (slots_of one)) now expr tt refl))

  pub singular_or_list_waits : (node : ℕ) (value : Option Expression) (options : List Expression) → MayBe IsWaitingExpr value → AllByRecursion IsWaitingExpr options → InsideNode node (singular_or_list scope value options)
  singular_or_list_waits node value options ok all =
      then (required_waits value ok nothing) (λ subject _.
      then (each_grows scope.relation Any slots_of IsWaitingExpr (option_of_kind scope (kind_of subject)) options all (option_waits (kind_of subject)) (slots_alone (slots_of subject))) (λ others _.
      let type = type_with kinds.Bool (some_nullable (subject ∷ others)) in
      made node (exprs.OneOf subject others type) (slots_of subject ++ flat_map slots_of others) _ (slots-OneOf subject others type)))

  -- SwitchExpression
  pub switch_waits : (node : ℕ) (ifs : List Arm) (other_arm match : Option Expression) → AllByRecursion (λ (one : Arm). MayBe IsWaitingExpr one.value) ifs → MayBe IsWaitingExpr other_arm → MayBe IsWaitingExpr match
      → InsideNode node (switch scope ifs other_arm match)
  switch_waits node ifs other_arm match all ok first =
      and_then (tested scope.relation scope.relation (is_some match && not (is_empty ifs)) rules.MissingField nothing) (λ _ _.
      then (required_waits match first nothing) (λ subject _.
      let written = map (λ (arm : Arm). arm.literal) ifs in
      then (parted scope.relation (AllOf (IsOfKind (kind_of subject)) (length written)) scope.relation (values_of_kind (kind_of subject) written) (values_fit (kind_of subject) written) (slots_alone (slots_of subject))) (λ literals fit.
      then (each_grows scope.relation Any slots_of (λ (arm : Arm). MayBe IsWaitingExpr arm.value) (λ (arm : Arm). required scope arm.value) ifs all (λ arm. required_waits arm.value) (slots_alone (slots_of subject))) (λ results p.
      then (otherwise_waits (first_kind results) other_arm ok (slots_alone (slots_of subject ++ flat_map slots_of results))) (λ other _.
      let now = slots_of subject ++ flat_map slots_of results ++ slots_of other in
      let type = type_among (results ++ other ∷ []) in
      and_then (tested scope.relation scope.relation (are_alike (results ++ other ∷ [])) rules.TypeMismatch (slots_alone now)) (λ _ _.
      made node (exprs.Switch subject (zip literals results) other type) now _
      (slots-Switch subject (zip literals results) other type
      ∙ ap (λ l. OfNone ∷ (slots_of subject ++ l ++ slots_of other)) (choices_are literals results (omega (arith, fit.1, p.1, length_mapped (λ (arm : Arm). arm.literal) ifs))))))))))

  -- a literal and a column have nothing inside
  alone_inside : (node : ℕ) (found : Result Expr Rule) → Given (λ expr. rest_of expr ≡ []) found → InsideNode node (part scope.relation found)
  alone_inside node found is =
      restated scope.relation (AwaitsOwn own_of node) (λ expr. rest_of expr ≡ []) Any (λ _. nothing) inside nothing (part scope.relation found) (λ expr p. (tt, ap slots_alone p))
      (parted_with scope.relation (AwaitsOwn own_of node) (λ expr. rest_of expr ≡ []) scope.relation found is nothing)

  pub literal_alone : (raw : RawLiteral) → Given (λ expr. rest_of expr ≡ []) (constant_in raw)
  literal_alone raw = given_then (λ _. Unit {0}) (λ expr. rest_of expr ≡ []) (literal_in raw) _ (anything_given (literal_in raw)) (λ one _. ap later_slots (slots-Const one.0 one.1))

  pub literal_waits : (node : ℕ) (raw : RawLiteral) → InsideNode node (part scope.relation (constant_in raw))
  literal_waits node raw = alone_inside node (constant_in raw) (literal_alone raw)

  column_at : (place : ℕ) (o : Option Ty) → MayBe (λ expr. rest_of expr ≡ []) (option_map (exprs.Column place) o)
  column_at place (Some column) = ap later_slots (slots-Column place column)
  column_at place None = tt

  column_alone : (field : ℤ) → MayBe (λ expr. rest_of expr ≡ []) (column_of scope.columns field)
  column_alone (pos place) = column_at place (slice_get scope.columns place)
  column_alone (negsuc place) = tt

  pub selection_waits : (node : ℕ) (direct : Option ReferenceSegment) (other : Bool) → InsideNode node (part scope.relation (selection_in scope.columns direct other))
  selection_waits node direct other =
      alone_inside node (selection_in scope.columns direct other)
      (given_then (λ _. Unit {0}) (λ expr. rest_of expr ≡ []) (ok_or (direct_field direct other) rules.UnsupportedForm) _ (anything_given (ok_or (direct_field direct other) rules.UnsupportedForm)) (λ field _.
      given_ok_or (λ expr. rest_of expr ≡ []) (column_of scope.columns field) rules.BadReference (column_alone field)))
