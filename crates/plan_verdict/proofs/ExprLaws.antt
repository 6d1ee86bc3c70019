-- The checks of expressions give well-typed ones.
use Rattle.std.proofs.Common.{◌≡◌, ℕ, List, [], ◌∷◌, ◌++◌, Bool, true, false, Option, Some, None, Result, Ok, Err, IsTrue, ◌||◌, ◌==◌, map, refl, sym, ap, subst, arith}
use Rattle.std.specs.Option.{ok_or, option_map}
use Rattle.std.specs.Prelude.{ℤ, pos, negsuc, slice_get, length, ◌+◌, nat_le}
use Rattle.std.specs.List.{AllByRecursion, zip, list_all}
use Rattle.std.proofs.lemmas.Bool.{and_parts}
use Rattle.std.specs.Cmp.Derive.{both_true}
use Rattle.sub_types.specs.Kind.{IsKind}
use Rattle.sub_types.specs.declared.kind.Kind.{Kind}
use Rattle.sub_types.specs.declared.kind.Kind.TheVariants as kinds
use Rattle.sub_types.specs.declared.kind.Ty.{Ty}
use Rattle.sub_types.specs.declared.value.Value.TheVariants as values
use Rattle.sub_types.specs.declared.value.Value.{Value}
use Rattle.sub_types.specs.Value.{FitsTy}
use Rattle.plan_leaves.specs.declared.literal.RawLiteral.{RawLiteral}
use Rattle.plan_leaves.specs.declared.reference.ReferenceSegment.{ReferenceSegment}
use Rattle.plan_leaves.specs.declared.options.FunctionOption.{FunctionOption}
use Rattle.plan_leaves.specs.declared.types.RawType.{RawType}
use Rattle.plan_typed.specs.declared.expr.Expr.{Expr}
use Rattle.plan_typed.specs.declared.expr.Expr.TheVariants as exprs
use Rattle.plan_typed.specs.Types.{ty_of}
use Rattle.func_table.proofs.KindLaws.{equal_kinds, is_equal-same}
use Rattle.func_table.specs.declared.row.Class.TheVariants.{Scalar}
use Rattle.func_table.specs.Kinds.{is_equal}
use Rattle.well_typed.specs.Casts.{can_cast}
use Rattle.well_typed.specs.ExprTyped.{IsTypedOver, IsCondition, AreAs, HasOne, IsOfKind}
use Rattle.well_typed.specs.Types.{kind_of, type_with, some_nullable}
use Rattle.well_typed.specs.WellTyped.{MayBe, IsConditionOver}
use Rattle.well_typed.proofs.Made.{const_typed, column_typed, call_typed, if_typed, switch_typed, one_of_typed, cast_typed}
use Rattle.well_typed.proofs.ValidKinds.{AreKinds, typed_kind}
use Rattle.plan_verdict.specs.declared.rule.Rule.{Rule}
use Rattle.plan_verdict.specs.declared.rule.Rule.TheVariants as rules
use Rattle.plan_verdict.specs.Checking.{Checking, ◌>>=◌, ◌>>◌, accept, must}
use Rattle.plan_verdict.specs.Calls.{named_in, call_in}
use Rattle.plan_verdict.specs.Exprs.{Terms, required, condition, option_of_kind, singular_or_list, cast, argument, arguments, scalar_function, null_of, otherwise, are_alike, first_kind, type_among, if_clause, if_then, switch}
use Rattle.plan_verdict.specs.Meaning.{Scope, Expression, Arm}
use Rattle.plan_verdict.specs.Literals.{literal_in, constant_in, values_of_kind}
use Rattle.plan_verdict.specs.References.{direct_field, column_of, selection_in}
use Rattle.plan_verdict.specs.Types.{type_in}
use Rattle.plan_verdict.proofs.LiteralLaws.{literal_fits, literal_valid, values_fit}
use Rattle.plan_verdict.proofs.CallLaws.{type_valid, call_found, IsCalled}
use Rattle.plan_verdict.proofs.Sound.{Sound, Quiet, then, and_then, accepted, refused, parted, tested, found, same_held, Given, given_then, given_ok_or, given_both, AllOf, each_sound, weaken, known_only, length_mapped}

-- an expression gives a well-typed one over any columns of valid kinds
abbrev pub IsSoundExpr : Expression → Type 0
IsSoundExpr written = (scope : Scope) → AreKinds scope.columns → Quiet (IsTypedOver scope.columns) (written.check scope)

pub either_nullable : (a b : Bool) → IsTrue a → IsTrue (a || b)
either_nullable true b h = refl
either_nullable false b h = cc

or_nullable : (a b : Bool) → IsTrue b → IsTrue (a || b)
or_nullable true b h = refl
or_nullable false b h = h

module _ (scope : Scope) (valid : AreKinds scope.columns) where
  abbrev Is : Expr → Type 0
  Is = IsTypedOver scope.columns

  pub required_sound : (written : Option Expression) → MayBe IsSoundExpr written → Quiet (IsTypedOver scope.columns) (required scope written)
  required_sound (Some one) ok extra = ok scope valid extra
  required_sound None ok extra = refused Is (λ _. extra) extra scope.relation _

  pub condition_sound : (written : Option Expression) → MayBe IsSoundExpr written → Quiet (IsConditionOver scope.columns) (condition scope written)
  condition_sound written ok extra =
      then (required_sound written ok extra) (λ expr typed.
      and_then (tested extra scope.relation (is_equal (kind_of expr) kinds.Bool) rules.TypeMismatch) (λ _ test.
      accepted (IsConditionOver scope.columns) (λ _. extra) extra expr (typed, equal_kinds (kind_of expr) kinds.Bool test) (same_held extra)))

  anything : {A : Type 0} (o : Option A) → MayBe (λ _. Unit {0}) o
  anything (Some x) = tt
  anything None = tt

  pub cast_sound : (type : Option RawType) (input : Option Expression) (failure : ℕ) → MayBe IsSoundExpr input → Quiet (IsTypedOver scope.columns) (cast scope type input failure)
  cast_sound type input failure ok extra =
      then (found (λ _. Unit {0}) extra scope.relation type (anything type)) (λ raw _.
      then (required_sound input ok extra) (λ expr typed.
      then (parted (λ (ty : Ty). IsKind ty.kind) extra scope.relation (type_in raw) (type_valid raw rules.UnsupportedType)) (λ ty valid.
      and_then (tested extra scope.relation (can_cast (kind_of expr) ty.kind) rules.BadArguments) (λ _ test.
      and_then (tested extra scope.relation (nat_le failure 2) rules.UnsupportedForm) (λ _ _.
      accepted Is (λ _. extra) extra (exprs.Cast expr (failure == 1) (type_with ty.kind ((ty_of expr).nullable || failure == 1)))
      (cast_typed scope.columns expr (failure == 1) (type_with ty.kind ((ty_of expr).nullable || failure == 1)) typed (test, valid, either_nullable (ty_of expr).nullable (failure == 1), or_nullable (ty_of expr).nullable (failure == 1))) (same_held extra))))))

  -- an argument is a value
  argument_sound : (written : Option Expression) → MayBe IsSoundExpr written → Quiet (IsTypedOver scope.columns) (argument scope written)
  argument_sound (Some one) ok extra = ok scope valid extra
  argument_sound None ok extra = refused Is (λ _. extra) extra scope.relation _

  pub arguments_sound : (written : List (Option Expression)) → AllByRecursion (MayBe IsSoundExpr) written → Quiet (AllByRecursion (IsTypedOver scope.columns)) (arguments scope written)
  arguments_sound written all extra =
      known_only (AllOf Is (length written)) (AllByRecursion Is) (λ _. extra) extra (arguments scope written) (λ values p. p.0) (each_sound Is (MayBe IsSoundExpr) (argument scope) written all argument_sound extra)

  anything_given : {A : Type 0} (r : Result A Rule) → Given (λ _. Unit {0}) r
  anything_given (Ok x) = tt
  anything_given (Err rule) = tt

  pub scalar_function_sound : (terms : Terms) (reference : ℕ) (output : Option RawType) (written : List (Option Expression)) (options : List FunctionOption) → AllByRecursion (MayBe IsSoundExpr) written
      → Quiet (IsTypedOver scope.columns) (scalar_function terms scope reference output written options)
  scalar_function_sound terms reference output written options all extra =
      then (parted (λ _. Unit {0}) extra scope.relation (named_in terms.declared Scalar reference) (anything_given (named_in terms.declared Scalar reference))) (λ named _.
      then (arguments_sound written all extra) (λ args typed.
      then (parted (IsCalled Scalar (map ty_of args)) extra scope.relation (call_in named Scalar (map ty_of args) output options) (call_found named Scalar (map ty_of args) output options)) (λ call called.
      accepted Is (λ _. extra) extra (exprs.Call call.func call.mode args call.ty) (call_typed scope.columns call.func call.mode args call.ty typed called) (same_held extra))))

  -- values of one kind are of the type that they imply together
  all_as : (kind : Kind) (b : Bool) (values : List Expr) → list_all (λ expr. is_equal (kind_of expr) kind) values ≡ true → (IsTrue (some_nullable values) → IsTrue b) → AreAs (type_with kind b) values
  all_as kind b [] test imp = tt
  all_as kind b (value ∷ values) test imp =
      let parts = and_parts (is_equal (kind_of value) kind) (list_all (λ expr. is_equal (kind_of expr) kind) values) test in (
        record { kind = sym (equal_kinds (kind_of value) kind parts.0); nullable = λ h. imp (either_nullable (ty_of value).nullable (some_nullable values) h) },
        all_as kind b values parts.1 (λ h. imp (or_nullable (ty_of value).nullable (some_nullable values) h)),
      )

  alike_as : (values : List Expr) → are_alike values ≡ true → AreAs (type_among values) values
  alike_as [] test = tt
  alike_as (first ∷ rest) test = all_as (kind_of first) (some_nullable (first ∷ rest)) (first ∷ rest) (both_true (is_equal-same (kind_of first)) test) (λ h. h)

  -- an else
  pub null_typed : (kind : Kind) → IsKind kind → IsTypedOver scope.columns (null_of kind)
  null_typed kind is = const_typed scope.columns values.Null (type_with kind true) (is, record { in_kind = tt; short = tt; allowed = λ _. refl })

  otherwise_sound : (kind : Kind) (written : Option Expression) → IsKind kind → MayBe IsSoundExpr written → Quiet (IsTypedOver scope.columns) (otherwise scope kind written)
  otherwise_sound kind (Some one) is ok extra = ok scope valid extra
  otherwise_sound kind None is ok extra = record { at = λ before done. record { known = null_typed kind is; subs = done; more = omega arith; apart = λ n. omega arith } }

  -- the kind of the first of these
  kind_valid : (values : List Expr) → AllByRecursion (IsTypedOver scope.columns) values → IsKind (first_kind values)
  kind_valid [] all = tt
  kind_valid (value ∷ values) all = typed_kind scope.columns valid value all.0

  values_typed : (arms : List (Expr × Expr)) → AllByRecursion (λ (arm : Expr × Expr). IsConditionOver scope.columns arm.0 × IsTypedOver scope.columns arm.1) arms → AllByRecursion (IsTypedOver scope.columns) (map (λ (arm : Expr × Expr). arm.1) arms)
  values_typed [] all = tt
  values_typed (arm ∷ arms) all = (all.0.1, values_typed arms all.1)

  has_one : {A : Type 0} (n : ℕ) (values : List A) → length values ≡ n + 1 → HasOne values
  has_one n [] e = grind arith
  has_one n (_ ∷ _) e = tt

  -- an arm of an if-then
  abbrev IsArm : Expr × Expr → Type 0
  IsArm arm = IsConditionOver scope.columns arm.0 × Is arm.1

  pub if_clause_sound : (when value : Option Expression) → MayBe IsSoundExpr when → MayBe IsSoundExpr value → Quiet (λ (arm : Expr × Expr). IsConditionOver scope.columns arm.0 × IsTypedOver scope.columns arm.1) (if_clause when value scope)
  if_clause_sound when value ok ok' extra =
      then (condition_sound when ok extra) (λ test is.
      then (required_sound value ok' extra) (λ result typed.
      accepted IsArm (λ _. extra) extra (test, result) (is, typed) (same_held extra)))

  if_rest : (ifs : List (Scope → Checking (Expr × Expr))) (arms : List (Expr × Expr)) (other_arm : Option Expression) → HasOne arms → AllByRecursion IsArm arms → MayBe IsSoundExpr other_arm → (extra : List ℕ)
      → Sound Is (λ _. extra) extra (otherwise scope (first_kind (map (λ (arm : Expr × Expr). arm.1) arms)) other_arm >>= (λ other. must scope.relation (are_alike (map (λ (arm : Expr × Expr). arm.1) arms ++ other ∷ [])) rules.TypeMismatch >> accept (exprs.If arms other (type_among (map (λ (arm : Expr × Expr). arm.1) arms ++ other ∷ [])))))
  if_rest ifs arms other_arm one all ok extra =
      let results = map (λ (arm : Expr × Expr). arm.1) arms in
      then (otherwise_sound (first_kind results) other_arm (kind_valid results (values_typed arms all)) ok extra) (λ other typed.
      and_then (tested extra scope.relation (are_alike (results ++ other ∷ [])) rules.TypeMismatch) (λ _ test.
      accepted Is (λ _. extra) extra (exprs.If arms other (type_among (results ++ other ∷ [])))
      (if_typed scope.columns arms other (type_among (results ++ other ∷ [])) (weaken IsArm (λ arm. Is arm.0 × Is arm.1) arms (λ arm p. (p.0.0, p.1)) all) typed
      (one, weaken IsArm (λ arm. IsCondition arm.0) arms (λ arm p. p.0.1) all, alike_as (results ++ other ∷ []) test)) (same_held extra)))

  pub if_then_sound : (ifs : List (Scope → Checking (Expr × Expr))) (other_arm : Option Expression)
      → AllByRecursion (λ clause. Quiet (λ (arm : Expr × Expr). IsConditionOver scope.columns arm.0 × IsTypedOver scope.columns arm.1) (clause scope)) ifs → MayBe IsSoundExpr other_arm → Quiet (IsTypedOver scope.columns) (if_then scope ifs other_arm)
  if_then_sound [] other_arm all ok extra = refused Is (λ _. extra) extra scope.relation rules.MissingField
  if_then_sound (first ∷ rest) other_arm all ok extra =
      then (each_sound IsArm (λ clause. Quiet IsArm (clause scope)) (λ clause. clause scope) (first ∷ rest) all (λ clause q. q) extra) (λ arms p.
      if_rest (first ∷ rest) arms other_arm (has_one (length rest) arms (omega (arith, p.1))) p.0 ok extra)

  -- a list of options
  option_sound : (kind : Kind) (written : Expression) → IsSoundExpr written → Quiet (λ expr. IsTypedOver scope.columns expr × (kind_of expr ≡ kind)) (option_of_kind scope kind written)
  option_sound kind written ok extra =
      then (ok scope valid extra) (λ expr typed.
      and_then (tested extra scope.relation (is_equal (kind_of expr) kind) rules.TypeMismatch) (λ _ test.
      accepted (λ expr. IsTypedOver scope.columns expr × (kind_of expr ≡ kind)) (λ _. extra) extra expr (typed, equal_kinds (kind_of expr) kind test) (same_held extra)))

  nullable_each : (b : Bool) (values : List Expr) → (IsTrue (some_nullable values) → IsTrue b) → AllByRecursion (λ one. IsTrue (ty_of one).nullable → IsTrue b) values
  nullable_each b [] imp = tt
  nullable_each b (value ∷ values) imp =
      ((λ h. imp (either_nullable (ty_of value).nullable (some_nullable values) h)), nullable_each b values (λ h. imp (or_nullable (ty_of value).nullable (some_nullable values) h)))

  pub singular_or_list_sound : (value : Option Expression) (options : List Expression) → MayBe IsSoundExpr value → AllByRecursion IsSoundExpr options → Quiet (IsTypedOver scope.columns) (singular_or_list scope value options)
  singular_or_list_sound value options ok all extra =
      then (required_sound value ok extra) (λ subject typed.
      then (each_sound (λ expr. Is expr × (kind_of expr ≡ kind_of subject)) IsSoundExpr (option_of_kind scope (kind_of subject)) options all (option_sound (kind_of subject)) extra) (λ others p.
      accepted Is (λ _. extra) extra (exprs.OneOf subject others (type_with kinds.Bool (some_nullable (subject ∷ others))))
      (one_of_typed scope.columns subject others (type_with kinds.Bool (some_nullable (subject ∷ others))) typed (weaken (λ expr. Is expr × (kind_of expr ≡ kind_of subject)) Is others (λ x q. q.0) p.0)
      (refl, weaken (λ expr. Is expr × (kind_of expr ≡ kind_of subject)) (λ expr. kind_of expr ≡ kind_of subject) others (λ x q. q.1) p.0, nullable_each (some_nullable (subject ∷ others)) (subject ∷ others) (λ h. h))) (same_held extra)))

  -- the parts of arms
  zip_one : {A B : Type 0} (n : ℕ) (xs : List A) (ys : List B) → length xs ≡ n + 1 → length ys ≡ n + 1 → HasOne (zip xs ys)
  zip_one n [] ys e f = grind arith
  zip_one n (x ∷ xs) [] e f = grind arith
  zip_one n (x ∷ xs) (y ∷ ys) e f = tt

  zip_first : {A B : Type 0} (P : A → Type 0) (xs : List A) (ys : List B) → AllByRecursion P xs → AllByRecursion (λ (arm : A × B). P arm.0) (zip xs ys)
  zip_first P [] ys all = tt
  zip_first P (x ∷ xs) [] all = tt
  zip_first P (x ∷ xs) (y ∷ ys) all = (all.0, zip_first P xs ys all.1)

  zip_second : {A B : Type 0} (P : B → Type 0) (xs : List A) (ys : List B) → AllByRecursion P ys → AllByRecursion (λ (arm : A × B). P arm.1) (zip xs ys)
  zip_second P [] ys all = tt
  zip_second P (x ∷ xs) [] all = tt
  zip_second P (x ∷ xs) (y ∷ ys) all = (all.0, zip_second P xs ys all.1)

  zip_values : {A B : Type 0} (xs : List A) (ys : List B) → length xs ≡ length ys → map (λ (arm : A × B). arm.1) (zip xs ys) ≡ ys
  zip_values [] [] e = refl
  zip_values [] (y ∷ ys) e = grind arith
  zip_values (x ∷ xs) [] e = grind arith
  zip_values (x ∷ xs) (y ∷ ys) e = ap (λ l. y ∷ l) (zip_values xs ys (omega arith))

  -- SwitchExpression
  pub switch_sound : (ifs : List Arm) (other_arm match : Option Expression) → AllByRecursion (λ (one : Arm). MayBe IsSoundExpr one.value) ifs → MayBe IsSoundExpr other_arm → MayBe IsSoundExpr match
      → Quiet (IsTypedOver scope.columns) (switch scope ifs other_arm match)
  switch_sound ifs other_arm None all ok first extra = refused Is (λ _. extra) extra scope.relation rules.MissingField
  switch_sound [] other_arm (Some subject) all ok first extra = refused Is (λ _. extra) extra scope.relation rules.MissingField
  switch_sound (one ∷ rest) other_arm (Some match) all ok first extra =
      then (required_sound (Some match) first extra) (λ subject typed.
      then (parted (AllOf (IsOfKind (kind_of subject)) (length (map (λ (arm : Arm). arm.literal) (one ∷ rest)))) extra scope.relation (values_of_kind (kind_of subject) (map (λ arm. arm.literal) (one ∷ rest))) (values_fit (kind_of subject) (map (λ arm. arm.literal) (one ∷ rest)))) (λ literals fit.
      then (each_sound Is (λ (arm : Arm). MayBe IsSoundExpr arm.value) (λ (arm : Arm). required scope arm.value) (one ∷ rest) all (λ arm. required_sound arm.value) extra) (λ results p.
      then (otherwise_sound (first_kind results) other_arm (kind_valid results p.0) ok extra) (λ other last.
      and_then (tested extra scope.relation (are_alike (results ++ other ∷ [])) rules.TypeMismatch) (λ _ test.
      let ty = type_among (results ++ other ∷ []) in
      accepted Is (λ _. extra) extra (exprs.Switch subject (zip literals results) other ty)
      (switch_typed scope.columns subject (zip literals results) other ty typed (zip_second Is literals results p.0) last (
        zip_one (length rest) literals results (omega (arith, fit.1, length_mapped (λ (arm : Arm). arm.literal) (one ∷ rest))) (omega (arith, p.1)),
        zip_first (IsOfKind (kind_of subject)) literals results fit.0,
        subst (λ l. AreAs ty (l ++ other ∷ [])) (sym (zip_values literals results (omega (arith, fit.1, p.1, length_mapped (λ (arm : Arm). arm.literal) (one ∷ rest))))) (alike_as (results ++ other ∷ []) test),
      )) (same_held extra))))))

  -- a literal
  pub constant_sound : (raw : RawLiteral) → Given (IsTypedOver scope.columns) (constant_in raw)
  constant_sound raw =
      given_then (λ (found : Value × Ty). IsKind found.1.kind × FitsTy found.1 found.0) Is (literal_in raw) _
      (given_both (λ (found : Value × Ty). IsKind found.1.kind) (λ (found : Value × Ty). FitsTy found.1 found.0) (literal_in raw) (literal_valid raw) (literal_fits raw)) (λ found f. const_typed scope.columns found.0 found.1 f)

  -- a column
  column_at : (place : ℕ) (o : Option Ty) → slice_get scope.columns place ≡ o → MayBe Is (option_map (exprs.Column place) o)
  column_at place (Some column) e = column_typed scope.columns place column (column, e, record { kind = refl; nullable = λ h. h })
  column_at place None e = tt

  column_sound : (field : ℤ) → MayBe Is (column_of scope.columns field)
  column_sound (pos place) = column_at place (slice_get scope.columns place) refl
  column_sound (negsuc place) = tt

  pub selection_sound : (direct : Option ReferenceSegment) (other : Bool) → Given (IsTypedOver scope.columns) (selection_in scope.columns direct other)
  selection_sound direct other = given_then (λ _. Unit {0}) Is (ok_or (direct_field direct other) rules.UnsupportedForm) _ (anything_given (ok_or (direct_field direct other) rules.UnsupportedForm)) (λ field _.
      given_ok_or Is (column_of scope.columns field) rules.BadReference (column_sound field))
