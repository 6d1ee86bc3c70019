-- The checks of expressions don't depend on the numbers of nodes.
use Rattle.std.proofs.Common.{ℕ, List, [], ◌∷◌, ◌++◌, Bool, true, false, Option, Some, None, ◌||◌, ◌==◌, map}
use Rattle.std.specs.Prelude.{nat_le, not, ◌&&◌, is_some}
use Rattle.std.specs.List.{AllByRecursion, zip}
use Rattle.sub_types.specs.declared.kind.Kind.{Kind}
use Rattle.sub_types.specs.declared.kind.Kind.TheVariants as kinds
use Rattle.sub_types.specs.declared.kind.Ty.{Ty}
use Rattle.sub_types.specs.declared.value.Value.TheVariants as values
use Rattle.plan_leaves.specs.declared.options.FunctionOption.{FunctionOption}
use Rattle.plan_leaves.specs.declared.types.RawType.{RawType}
use Rattle.plan_typed.specs.declared.expr.Expr.{Expr}
use Rattle.plan_typed.specs.declared.expr.Expr.TheVariants as exprs
use Rattle.plan_typed.specs.declared.rel.Rel.{Rel}
use Rattle.plan_typed.specs.declared.sub.SubKind.{SubKind}
use Rattle.plan_typed.specs.declared.sub.SubKind.TheVariants as sub_kinds
use Rattle.plan_typed.specs.Types.{ty_of, columns_of}
use Rattle.func_table.specs.declared.row.Class.TheVariants.{Scalar}
use Rattle.func_table.specs.Kinds.{is_equal}
use Rattle.well_typed.specs.Casts.{can_cast}
use Rattle.well_typed.specs.Types.{kind_of, type_with, some_nullable}
use Rattle.well_typed.specs.WellTyped.{MayBe}
use Rattle.plan_verdict.specs.declared.rule.Rule.TheVariants as rules
use Rattle.plan_verdict.specs.Calls.{named_in, call_in}
use Rattle.plan_verdict.specs.Checking.{Checking}
use Rattle.plan_verdict.specs.Exprs.{Terms, required, condition, option_of_kind, singular_or_list, cast, argument, arguments, scalar_function, null_of, otherwise, are_alike, first_kind, type_among, if_clause, if_then, switch, each_in, subquery, is_single, is_single_of, first_column, scalar, in_predicate, set_predicate, where_taken}
use Rattle.plan_verdict.specs.Lists.{is_empty}
use Rattle.plan_verdict.specs.Literals.{values_of_kind}
use Rattle.plan_verdict.specs.Meaning.{Scope, Expression, Arm}
use Rattle.plan_verdict.specs.Relation.{numbered, input}
use Rattle.plan_verdict.specs.Types.{type_in}
use Rattle.verdict_nodes.specs.Alike.{Alike, IsBlind}
use Rattle.verdict_nodes.proofs.Steps.{then, and_then, accepted, refused, parted, tested, found, next_number, and_next, nodes_alike, from_alike, done_alike, each_alike}

-- the check of an expression
abbrev pub IsBlindExpr : Expression → Type 0
IsBlindExpr written = (scope : Scope) → IsBlind (written.check scope)

-- the check of a relation, by its number
abbrev pub IsBlindRel : (ℕ → Checking Rel) → Type 0
IsBlindRel relation = (number : ℕ) → IsBlind (relation number)

-- a relation's expressions are numbered from 0, and then on from the outer ones
pub numbered_alike : (relation : ℕ → Checking Rel) → IsBlindRel relation → IsBlind (numbered relation)
numbered_alike relation s =
    then next_number (λ number.
    nodes_alike (λ m n.
    and_then (from_alike 0 0) (then (s number) (λ rel. and_then (from_alike m n) (accepted rel)))))

pub input_alike : (number : ℕ) (written : Option (ℕ → Checking Rel)) → MayBe IsBlindRel written → IsBlind (input number written)
input_alike number (Some relation) s = numbered_alike relation s
input_alike number None s = refused number rules.MissingField

module _ (scope : Scope) where
  pub required_alike : (written : Option Expression) → MayBe IsBlindExpr written → IsBlind (required scope written)
  required_alike (Some one) ok = ok scope
  required_alike None ok = refused scope.relation rules.MissingField

  pub condition_alike : (written : Option Expression) → MayBe IsBlindExpr written → IsBlind (condition scope written)
  condition_alike written ok =
      then (required_alike written ok) (λ expr.
      and_then (tested scope.relation (is_equal (kind_of expr) kinds.Bool) rules.TypeMismatch) (accepted expr))

  pub each_in_alike : (written : List Expression) → AllByRecursion IsBlindExpr written → IsBlind (each_in scope written)
  each_in_alike written all = each_alike IsBlindExpr (λ (one : Expression). one.check scope) written all (λ one ok. ok scope)

  pub cast_alike : (type : Option RawType) (input : Option Expression) (failure : ℕ) → MayBe IsBlindExpr input → IsBlind (cast scope type input failure)
  cast_alike type input failure ok =
      then (found scope.relation type) (λ raw.
      then (required_alike input ok) (λ expr.
      then (parted scope.relation (type_in raw)) (λ ty.
      and_then (tested scope.relation (can_cast (kind_of expr) ty.kind) rules.BadArguments)
      (and_then (tested scope.relation (nat_le failure 2) rules.UnsupportedForm)
      (accepted (exprs.Cast expr (failure == 1) (type_with ty.kind ((ty_of expr).nullable || failure == 1))))))))

  -- the arguments of a function
  argument_alike : (written : Option Expression) → MayBe IsBlindExpr written → IsBlind (argument scope written)
  argument_alike (Some one) ok = ok scope
  argument_alike None ok = refused scope.relation rules.UnsupportedForm

  pub arguments_alike : (written : List (Option Expression)) → AllByRecursion (MayBe IsBlindExpr) written → IsBlind (arguments scope written)
  arguments_alike written all = each_alike (MayBe IsBlindExpr) (argument scope) written all argument_alike

  pub scalar_function_alike : (terms : Terms) (reference : ℕ) (output : Option RawType) (written : List (Option Expression)) (options : List FunctionOption) → AllByRecursion (MayBe IsBlindExpr) written
      → IsBlind (scalar_function terms scope reference output written options)
  scalar_function_alike terms reference output written options all =
      then (parted scope.relation (named_in terms.declared Scalar reference)) (λ named.
      then (arguments_alike written all) (λ args.
      then (parted scope.relation (call_in named Scalar (map ty_of args) output options)) (λ call.
      accepted (exprs.Call call.func call.mode args call.ty))))

  otherwise_alike : (kind : Kind) (written : Option Expression) → MayBe IsBlindExpr written → IsBlind (otherwise scope kind written)
  otherwise_alike kind (Some one) ok = ok scope
  otherwise_alike kind None ok = and_next (accepted (null_of kind))

  pub if_clause_alike : (when value : Option Expression) → MayBe IsBlindExpr when → MayBe IsBlindExpr value → IsBlind (if_clause when value scope)
  if_clause_alike when value ok ok' =
      then (condition_alike when ok) (λ test.
      then (required_alike value ok') (λ result.
      accepted (test, result)))

  pub if_then_alike : (ifs : List (Scope → Checking (Expr × Expr))) (other_arm : Option Expression) → AllByRecursion (λ clause. IsBlind (clause scope)) ifs → MayBe IsBlindExpr other_arm → IsBlind (if_then scope ifs other_arm)
  if_then_alike ifs other_arm all ok =
      and_then (tested scope.relation (not (is_empty ifs)) rules.MissingField)
      (then (each_alike (λ clause. IsBlind (clause scope)) (λ clause. clause scope) ifs all (λ clause q. q)) (λ arms.
      let results = map (λ (arm : Expr × Expr). arm.1) arms in
      then (otherwise_alike (first_kind results) other_arm ok) (λ other.
      and_then (tested scope.relation (are_alike (results ++ other ∷ [])) rules.TypeMismatch)
      (accepted (exprs.If arms other (type_among (results ++ other ∷ [])))))))

  -- a list of options
  option_alike : (kind : Kind) (written : Expression) → IsBlindExpr written → IsBlind (option_of_kind scope kind written)
  option_alike kind written ok =
      then (ok scope) (λ expr.
      and_then (tested scope.relation (is_equal (kind_of expr) kind) rules.TypeMismatch) (accepted expr))

  pub singular_or_list_alike : (value : Option Expression) (options : List Expression) → MayBe IsBlindExpr value → AllByRecursion IsBlindExpr options → IsBlind (singular_or_list scope value options)
  singular_or_list_alike value options ok all =
      then (required_alike value ok) (λ subject.
      then (each_alike IsBlindExpr (option_of_kind scope (kind_of subject)) options all (option_alike (kind_of subject))) (λ others.
      accepted (exprs.OneOf subject others (type_with kinds.Bool (some_nullable (subject ∷ others))))))

  -- SwitchExpression
  pub switch_alike : (ifs : List Arm) (other_arm match : Option Expression) → AllByRecursion (λ (one : Arm). MayBe IsBlindExpr one.value) ifs → MayBe IsBlindExpr other_arm → MayBe IsBlindExpr match → IsBlind (switch scope ifs other_arm match)
  switch_alike ifs other_arm match all ok first =
      and_then (tested scope.relation (is_some match && not (is_empty ifs)) rules.MissingField)
      (then (required_alike match first) (λ subject.
      then (parted scope.relation (values_of_kind (kind_of subject) (map (λ (arm : Arm). arm.literal) ifs))) (λ literals.
      then (each_alike (λ (arm : Arm). MayBe IsBlindExpr arm.value) (λ (arm : Arm). required scope arm.value) ifs all (λ arm. required_alike arm.value)) (λ results.
      then (otherwise_alike (first_kind results) other_arm ok) (λ other.
      and_then (tested scope.relation (are_alike (results ++ other ∷ [])) rules.TypeMismatch)
      (accepted (exprs.Switch subject (zip literals results) other (type_among (results ++ other ∷ [])))))))))

  -- a subquery's hole has any number
  subquery_alike : (m n : ℕ) (kind : SubKind) (fits : List Ty → Bool) (written : Option (ℕ → Checking Rel)) → MayBe IsBlindRel written → Alike (subquery scope m kind fits written) (subquery scope n kind fits written)
  subquery_alike m n kind fits written s =
      then (input_alike scope.relation written s) (λ rel.
      and_then (tested scope.relation (fits (columns_of rel)) rules.TypeMismatch)
      (and_then (done_alike (record { rel = rel; kind = kind; hole = record { relation = scope.relation; node = m } }) (record { rel = rel; kind = kind; hole = record { relation = scope.relation; node = n } }))
      (accepted (columns_of rel))))

  pub scalar_alike : (m n : ℕ) (written : Option (ℕ → Checking Rel)) → MayBe IsBlindRel written → Alike (scalar scope m written) (scalar scope n written)
  scalar_alike m n written s = then (subquery_alike m n sub_kinds.Scalar is_single written s) (λ columns. accepted (null_of (first_column columns).kind))

  pub in_predicate_alike : (m n : ℕ) (needles : List Expression) (written : Option (ℕ → Checking Rel)) → AllByRecursion IsBlindExpr needles → MayBe IsBlindRel written → Alike (in_predicate scope m needles written) (in_predicate scope n needles written)
  in_predicate_alike m n [] written all s = refused scope.relation rules.UnsupportedForm
  in_predicate_alike m n (needle ∷ []) written all s =
      then (all.0 scope) (λ expr.
      then (subquery_alike m n sub_kinds.In (is_single_of (kind_of expr)) written s) (λ columns.
      accepted (exprs.OneOf expr [] (type_with kinds.Bool ((ty_of expr).nullable || (first_column columns).nullable)))))
  in_predicate_alike m n (one ∷ two ∷ rest) written all s = refused scope.relation rules.UnsupportedForm

  pub set_predicate_alike : (m n predicate : ℕ) (written : Option (ℕ → Checking Rel)) → MayBe IsBlindRel written → Alike (set_predicate scope m predicate written) (set_predicate scope n predicate written)
  set_predicate_alike m n predicate written s =
      and_then (tested scope.relation (predicate == 1) rules.UnsupportedForm)
      (and_then (subquery_alike m n sub_kinds.Exists (λ _. true) written s)
      (accepted (exprs.Const (values.Bool false) (type_with kinds.Bool false))))

  pub taken_alike : (terms : Terms) (one other : Checking Expr) → Alike one other → Alike (where_taken terms scope one) (where_taken terms scope other)
  taken_alike terms one other s = and_then (tested scope.relation terms.with_subqueries rules.UnsupportedForm) s
