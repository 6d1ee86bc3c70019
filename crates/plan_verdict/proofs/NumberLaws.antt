-- Relations are numbered, and subqueries done.
use Rattle.std.proofs.Common.{◌≡◌, ℕ, ◌+◌, List, [], ◌∷◌, ◌++◌, Bool, true, false, Option, Some, None, Result, Ok, Err, refl, arith}
use Rattle.std.specs.Prelude.{length, ◌==◌, ◌||◌}
use Rattle.std.specs.List.{AllByRecursion}
use Rattle.sub_types.specs.Kind.{IsKind}
use Rattle.sub_types.specs.declared.kind.Kind.{Kind}
use Rattle.sub_types.specs.declared.kind.Kind.TheVariants as kinds
use Rattle.sub_types.specs.declared.kind.Ty.{Ty}
use Rattle.plan_typed.specs.declared.expr.Expr.{Expr}
use Rattle.plan_typed.specs.declared.expr.Expr.TheVariants as exprs
use Rattle.plan_typed.specs.declared.rel.Rel.{Rel}
use Rattle.plan_typed.specs.declared.sub.Sub.{Sub}
use Rattle.plan_typed.specs.declared.sub.SubKind.{SubKind}
use Rattle.plan_typed.specs.declared.sub.SubKind.TheVariants as sub_kinds
use Rattle.plan_typed.specs.Numbers.{numbers_of}
use Rattle.plan_typed.specs.Types.{ty_of, columns_of}
use Rattle.sub_types.specs.declared.value.Value.TheVariants as values
use Rattle.well_typed.specs.ExprTyped.{IsTypedOver}
use Rattle.well_typed.specs.Types.{kind_of, type_with}
use Rattle.well_typed.specs.WellTyped.{AreTyped, IsTypedSub, HasColumnsOf, numbers_of_subs, MayBe}
use Rattle.well_typed.proofs.ValidColumns.{typed_columns}
use Rattle.well_typed.proofs.ValidKinds.{AreKinds}
use Rattle.well_typed.proofs.Made.{const_typed, one_of_typed}
use Rattle.plan_verdict.specs.declared.progress.Progress.{Progress}
use Rattle.plan_verdict.specs.declared.rule.Rule.TheVariants as rules
use Rattle.plan_verdict.specs.Checking.{Checking, Refusal, go_on, done}
use Rattle.plan_verdict.specs.Exprs.{subquery, is_single, is_single_of, first_column, scalar, in_predicate, set_predicate, where_taken, null_of, Terms}
use Rattle.plan_verdict.specs.Lists.{only}
use Rattle.plan_verdict.specs.Meaning.{Scope, Expression}
use Rattle.plan_verdict.specs.Relation.{numbered, input}
use Rattle.plan_verdict.proofs.ExprLaws.{IsSoundExpr, null_typed, either_nullable}
use Rattle.plan_verdict.proofs.Sound.{Sound, Found, Quiet, times, times-append, times-cons, between-more, between-next, then, and_then, accepted, refused, parted, tested, same_held, given_ok_or}

-- a relation by its number, which is held before it, gives a well-typed one, and then the numbers of this are held
abbrev pub IsSoundRel : (ℕ → Checking Rel) → Type 0
IsSoundRel relation = (number : ℕ) (extra : List ℕ) → Sound AreTyped (λ rel. numbers_of rel ++ extra) (number ∷ extra) (relation number)

module _ (extra : List ℕ) where
  abbrev held : Rel → List ℕ
  held rel = numbers_of rel ++ extra

  numbered_at : (before : Progress) (outer : ℕ) (r : Result (Rel × Progress) Refusal) → Found AreTyped held (before.relations ∷ extra) (record { relations = before.relations + 1; nodes = 0; subs = before.subs }) r
      → Found AreTyped held extra before (go_on r (λ rel after. Ok (rel, record after { nodes = outer })))
  numbered_at before outer (Ok (rel, after)) f = record {
    known = f.known;
    subs = f.subs;
    more = omega (arith, f.more);
    apart = λ n. omega (arith, f.apart n, times-cons n before.relations extra, between-next before.relations n, between-more before.relations (before.relations + 1) after.relations n (omega arith) f.more);
  }
  numbered_at before outer (Err refusal) f = tt

  pub numbered_sound : (relation : ℕ → Checking Rel) → IsSoundRel relation → Sound AreTyped (λ rel. numbers_of rel ++ extra) extra (numbered relation)
  numbered_sound relation s = record { at = λ before ok. numbered_at before before.nodes (relation before.relations (record { relations = before.relations + 1; nodes = 0; subs = before.subs })) ((s before.relations extra).at (record { relations = before.relations + 1; nodes = 0; subs = before.subs }) ok) }

  pub input_sound : (number : ℕ) (written : Option (ℕ → Checking Rel)) → MayBe IsSoundRel written → Sound AreTyped (λ rel. numbers_of rel ++ extra) extra (input number written)
  input_sound number (Some relation) s = numbered_sound relation s
  input_sound number None s = refused AreTyped held extra number rules.MissingField

  -- one more subquery
  one_more : (subs : List Sub) (sub : Sub) → AllByRecursion IsTypedSub subs → IsTypedSub sub → AllByRecursion IsTypedSub (subs ++ sub ∷ [])
  one_more [] sub all one = (one, tt)
  one_more (first ∷ rest) sub all one = (all.0, one_more rest sub all.1 one)

  numbers_more : (n : ℕ) (subs : List Sub) (sub : Sub) → times n (numbers_of_subs (subs ++ sub ∷ [])) ≡ times n (numbers_of_subs subs) + times n (numbers_of sub.rel)
  numbers_more n [] sub = omega (arith, times-append n (numbers_of sub.rel) [], times-append n [] [])
  numbers_more n (first ∷ rest) sub = omega (arith, numbers_more n rest sub, times-append n (numbers_of first.rel) (numbers_of_subs rest), times-append n (numbers_of first.rel) (numbers_of_subs (rest ++ sub ∷ [])))

  pub done_sound : (sub : Sub) → IsTypedSub sub → Sound (λ _. Unit {0}) (λ _. extra) (numbers_of sub.rel ++ extra) (done sub)
  done_sound sub one = record {
    at = λ before ok. record {
      known = tt;
      subs = one_more before.subs sub ok one;
      more = omega arith;
      apart = λ n. omega (arith, numbers_more n before.subs sub, times-append n (numbers_of sub.rel) extra);
    };
  }

module _ (scope : Scope) (valid : AreKinds scope.columns) where
  abbrev Is : Expr → Type 0
  Is = IsTypedOver scope.columns

  subquery_sound : (node : ℕ) (kind : SubKind) (fits : List Ty → Bool) (written : Option (ℕ → Checking Rel)) → MayBe IsSoundRel written → ((columns : List Ty) → fits columns ≡ true → HasColumnsOf kind columns)
      → Quiet AreKinds (subquery scope node kind fits written)
  subquery_sound node kind fits written s has extra =
      then (input_sound extra scope.relation written s) (λ rel typed.
      and_then (tested (numbers_of rel ++ extra) scope.relation (fits (columns_of rel)) rules.TypeMismatch) (λ _ test.
      and_then (done_sound extra (record { rel = rel; kind = kind; hole = record { relation = scope.relation; node = node } }) (typed, has (columns_of rel) test)) (λ _ _.
      accepted AreKinds (λ _. extra) extra (columns_of rel) (typed_columns rel typed) (same_held extra))))

  single : (columns : List Ty) → is_single columns ≡ true → length columns ≡ 1
  single [] test = cc
  single (one ∷ []) test = refl
  single (one ∷ two ∷ rest) test = grind arith

  single_of : (kind : Kind) (columns : List Ty) → is_single_of kind columns ≡ true → length columns ≡ 1
  single_of kind [] test = cc
  single_of kind (one ∷ []) test = refl
  single_of kind (one ∷ two ∷ rest) test = cc

  first_valid : (columns : List Ty) → AreKinds columns → IsKind (first_column columns).kind
  first_valid [] all = tt
  first_valid (column ∷ columns) all = all.0

  pub scalar_sound : (node : ℕ) (written : Option (ℕ → Checking Rel)) → MayBe IsSoundRel written → Quiet (IsTypedOver scope.columns) (scalar scope node written)
  scalar_sound node written s extra =
      then (subquery_sound node sub_kinds.Scalar is_single written s single extra) (λ columns is.
      accepted Is (λ _. extra) extra (null_of (first_column columns).kind) (null_typed scope valid (first_column columns).kind (first_valid columns is)) (same_held extra))

  only_sound : (needles : List Expression) → AllByRecursion IsSoundExpr needles → MayBe IsSoundExpr (only needles)
  only_sound [] all = tt
  only_sound (one ∷ []) all = all.0
  only_sound (one ∷ two ∷ rest) all = tt

  pub in_predicate_sound : (node : ℕ) (needles : List Expression) (written : Option (ℕ → Checking Rel)) → AllByRecursion IsSoundExpr needles → MayBe IsSoundRel written → Quiet (IsTypedOver scope.columns) (in_predicate scope node needles written)
  in_predicate_sound node needles written all s extra =
      then (parted IsSoundExpr extra scope.relation _ (given_ok_or IsSoundExpr (only needles) rules.UnsupportedForm (only_sound needles all))) (λ needle ok.
      then (ok scope valid extra) (λ expr typed.
      then (subquery_sound node sub_kinds.In (is_single_of (kind_of expr)) written s (single_of (kind_of expr)) extra) (λ columns _.
      let ty = type_with kinds.Bool ((ty_of expr).nullable || (first_column columns).nullable) in
      accepted Is (λ _. extra) extra (exprs.OneOf expr [] ty)
      (one_of_typed scope.columns expr [] ty typed tt (refl, tt, (either_nullable (ty_of expr).nullable (first_column columns).nullable, tt))) (same_held extra))))

  pub set_predicate_sound : (node predicate : ℕ) (written : Option (ℕ → Checking Rel)) → MayBe IsSoundRel written → Quiet (IsTypedOver scope.columns) (set_predicate scope node predicate written)
  set_predicate_sound node predicate written s extra =
      and_then (tested extra scope.relation (predicate == 1) rules.UnsupportedForm) (λ _ _.
      and_then (subquery_sound node sub_kinds.Exists (λ _. true) written s (λ _ _. tt) extra) (λ _ _.
      accepted Is (λ _. extra) extra (exprs.Const (values.Bool false) (type_with kinds.Bool false)) (const_typed scope.columns (values.Bool false) (type_with kinds.Bool false) (tt, record { in_kind = tt; short = tt; allowed = λ e. cc })) (same_held extra)))

  pub taken_sound : (terms : Terms) (check : Checking Expr) → Quiet (IsTypedOver scope.columns) check → Quiet (IsTypedOver scope.columns) (where_taken terms scope check)
  taken_sound terms check s extra = and_then (tested extra scope.relation terms.with_subqueries rules.UnsupportedForm) (λ _ _. s extra)
