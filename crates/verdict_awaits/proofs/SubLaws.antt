-- Subqueries are done, and their holes are at the nodes that hold them.
use Rattle.std.proofs.Common.{◌≡◌, ◌∙◌, ◌≤◌, ◌<◌, ℕ, List, [], ◌∷◌, ◌++◌, Bool, true, false, Option, Some, None, IsTrue, Result, Ok, Err, refl, sym, ap, subst, arith}
use Rattle.std.specs.Prelude.{◌==◌, ◌||◌}
use Rattle.std.specs.List.{AllByRecursion}
use Rattle.std.proofs.lemmas.List.{append-nil, append_assoc}
use Rattle.sub_types.specs.declared.kind.Kind.TheVariants as kinds
use Rattle.sub_types.specs.declared.kind.Ty.{Ty}
use Rattle.sub_types.specs.declared.value.Value.TheVariants as values
use Rattle.plan_typed.specs.declared.expr.Expr.{Expr}
use Rattle.plan_typed.specs.declared.expr.Expr.TheVariants as exprs
use Rattle.plan_typed.specs.declared.rel.Rel.{Rel}
use Rattle.plan_typed.specs.declared.sub.Sub.{Sub}
use Rattle.plan_typed.specs.declared.sub.SubKind.{SubKind}
use Rattle.plan_typed.specs.declared.sub.SubKind.TheVariants as sub_kinds
use Rattle.plan_typed.specs.Types.{ty_of, columns_of}
use Rattle.func_table.proofs.KindLaws.{equal_kinds}
use Rattle.well_typed.specs.Types.{kind_of, type_with}
use Rattle.well_typed.specs.WellTyped.{MayBe}
use Rattle.plan_denote.specs.Subqueries.{first_type}
use Rattle.denote_typed.specs.Holes.{Slot, OfValue, OfList, slots_of, Awaits, AwaitsIn}
use Rattle.plan_verdict.specs.declared.progress.Progress.{Progress}
use Rattle.plan_verdict.specs.declared.rule.Rule.TheVariants as rules
use Rattle.plan_verdict.specs.Checking.{Checking, Refusal, go_on, must, done, accept, ◌>>◌}
use Rattle.plan_verdict.specs.Exprs.{subquery, is_single, is_single_of, first_column, scalar, in_predicate, set_predicate, where_taken, null_of, Terms}
use Rattle.plan_verdict.specs.Lists.{only}
use Rattle.plan_verdict.specs.Meaning.{Scope, Expression}
use Rattle.plan_verdict.specs.Relation.{numbered}
use Rattle.plan_verdict.proofs.Sound.{given_ok_or}
use Rattle.verdict_awaits.proofs.ExprLaws.{IsWaitingExpr, InsideNode, inside}
use Rattle.verdict_awaits.proofs.Nodes.{AwaitsOwn, then_made}
use Rattle.verdict_awaits.proofs.NumberLaws.{IsWaitingRel, Numbered, IsNumbered, numbered_whole}
use Rattle.verdict_awaits.proofs.Parts.{Part, nothing, slots_alone, joined_nothing, all_any, all_append, weakened, AreWithin, Placed, Inside, Loose, AwaitEachOther}
use Rattle.verdict_awaits.proofs.Slots.{own_of, first_slot, later_slots, slots-Const, slots-OneOf}
use Rattle.verdict_awaits.proofs.Waits.{After, Found, Waits, Any, then, and_then, parted, tested}

-- one more subquery, which the holes of the earlier ones await
one_more : (subs : List Sub) (sub : Sub) → AwaitEachOther subs → AllByRecursion (λ (earlier : Sub). AwaitsIn earlier sub.rel) subs → AwaitEachOther (subs ++ sub ∷ [])
one_more [] sub each all = (tt, tt)
one_more (first ∷ rest) sub each all = (all_append (λ (later : Sub). AwaitsIn first later.rel) rest (sub ∷ []) each.0 (all.0, tt), one_more rest sub each.1 all.1)

-- a subquery of a kind over these columns, whose hole has this node
abbrev IsOver : ℕ → SubKind → List Ty → Sub → Type 0
IsOver node kind columns sub = (sub.hole.node ≡ node) × (sub.kind ≡ kind) × (columns_of sub.rel ≡ columns)

module _ (scope : Scope) (node : ℕ) (kind : SubKind) (fits : List Ty → Bool) (start : Part) (before : Progress) where
  abbrev sub_of : Rel → Sub
  sub_of rel = record { rel = rel; kind = kind; hole = record { relation = scope.relation; node = node } }

  -- the subquery is done
  done_after : (rel : Rel) (after : Progress) → Numbered before rel after → fits (columns_of rel) ≡ true
      → After scope.relation (IsOver node kind) (λ columns. fits columns ≡ true) (λ _. start) start before (columns_of rel) (record after { subs = after.subs ++ sub_of rel ∷ [] })
  done_after rel after n test =
      let a = before.relations in
      let b = after.relations in
      let loose : Sub → Type 0 = IsOver node kind (columns_of rel) in
      let all : List Sub = n.done ++ sub_of rel ∷ [] in
      record {
        is = test;
        added = nothing;
        done = all;
        state_is = joined_nothing start;
        subs_are = ap (λ subs. subs ++ sub_of rel ∷ []) n.subs_are ∙ append_assoc before.subs n.done (sub_of rel ∷ []);
        nodes_are = omega (arith, n.nodes_are);
        more = n.more;
        fits = record {
          inside = all_append (λ (sub : Sub). AreWithin a b sub.rel) n.done (sub_of rel ∷ []) n.inside (n.own, tt);
          inputs = tt;
          placed = all_append (Placed scope.relation a b before.nodes [] loose) n.done (sub_of rel ∷ [])
              (weakened (λ (sub : Sub). (a ≤ sub.hole.relation) × (sub.hole.relation < b)) (Placed scope.relation a b before.nodes [] loose) n.done (λ sub is. Inside is.0 is.1) n.holes) (Loose refl (refl, refl, refl), tt);
          in_inputs = all_any all;
          in_later = one_more n.done (sub_of rel) n.in_later n.in_own;
        };
      }

  abbrev after_rel : Rel → Bool → Checking (List Ty)
  after_rel rel test = must scope.relation test rules.TypeMismatch >> (done (sub_of rel) >> accept (columns_of rel))

  tested_at : (rel : Rel) (after : Progress) (test : Bool) → fits (columns_of rel) ≡ test → Numbered before rel after
      → Found scope.relation (IsOver node kind) (λ columns. fits columns ≡ true) (λ _. start) start before (after_rel rel test after)
  tested_at rel after true test n = done_after rel after n test
  tested_at rel after false test n = tt

  sub_at : (r : Result (Rel × Progress) Refusal) → IsNumbered before r
      → Found scope.relation (IsOver node kind) (λ columns. fits columns ≡ true) (λ _. start) start before (go_on r (λ rel. after_rel rel (fits (columns_of rel))))
  sub_at (Ok (rel, after)) n = tested_at rel after (fits (columns_of rel)) refl n
  sub_at (Err refusal) n = tt

subquery_waits : (scope : Scope) (node : ℕ) (kind : SubKind) (fits : List Ty → Bool) (written : Option (ℕ → Checking Rel)) → MayBe IsWaitingRel written → (start : Part)
    → Waits scope.relation (IsOver node kind) (λ columns. fits columns ≡ true) (λ _. start) start (subquery scope node kind fits written)
subquery_waits scope node kind fits (Some relation) s start = record { at = λ before low. sub_at scope node kind fits start before (numbered relation before) (numbered_whole relation s before) }
subquery_waits scope node kind fits None s start = record { at = λ before low. tt }

-- what a node awaits, said of the subquery that is done
awaits_over : (node : ℕ) (kind : SubKind) (columns : List Ty) (slot own : Slot) (sub : Sub) → IsOver node kind columns sub → own ≡ slot → Awaits kind columns slot → Awaits sub.kind (columns_of sub.rel) own
awaits_over node kind columns slot own sub is same awaits =
    subst (λ (one : Slot). Awaits sub.kind (columns_of sub.rel) one) (sym same)
    (subst (λ (types : List Ty). Awaits sub.kind types slot) (sym is.2) (subst (λ (one : SubKind). Awaits one columns slot) (sym is.1) awaits))

same_first : (columns : List Ty) → (first_column columns).kind ≡ (first_type columns).kind
same_first [] = refl
same_first (column ∷ columns) = refl

module _ (scope : Scope) (node : ℕ) where
  abbrev Own : Expr → Sub → Type 0
  Own = AwaitsOwn own_of node

  -- null stands where a value is awaited
  scalar_own : (columns : List Ty) (sub : Sub) → IsOver node sub_kinds.Scalar columns sub → Own (null_of (first_column columns).kind) sub
  scalar_own columns sub is =
      let type = type_with (first_column columns).kind true in
      (is.0, awaits_over node sub_kinds.Scalar columns (OfValue type) (own_of (exprs.Const values.Null type)) sub is (ap first_slot (slots-Const values.Null type)) (same_first columns, refl))

  pub scalar_waits : (written : Option (ℕ → Checking Rel)) → MayBe IsWaitingRel written → InsideNode scope node (scalar scope node written)
  scalar_waits written s =
      then_made scope.relation (IsOver node sub_kinds.Scalar) Own (λ columns. is_single columns ≡ true) Any (λ _. nothing) (inside scope) nothing (λ columns. null_of (first_column columns).kind)
      (λ columns p. (tt, ap (λ l. slots_alone (later_slots l)) (slots-Const values.Null (type_with (first_column columns).kind true)), scalar_own columns))
      (subquery scope node sub_kinds.Scalar is_single written) (subquery_waits scope node sub_kinds.Scalar is_single written s nothing)

  -- a list stands where values are looked among
  abbrev list_type : Expr → List Ty → Ty
  list_type expr columns = type_with kinds.Bool ((ty_of expr).nullable || (first_column columns).nullable)

  or_nullable : (a b : Bool) → IsTrue b → IsTrue (a || b)
  or_nullable true b h = refl
  or_nullable false b h = h

  list_awaits : (expr : Expr) (columns : List Ty) → is_single_of (kind_of expr) columns ≡ true → Awaits sub_kinds.In columns (OfList (ty_of expr) (list_type expr columns))
  list_awaits expr [] test = absurd cc
  list_awaits expr (column ∷ []) test = (equal_kinds column.kind (kind_of expr) test, λ h. or_nullable (ty_of expr).nullable column.nullable h)
  list_awaits expr (column ∷ other ∷ rest) test = absurd cc

  list_own : (expr : Expr) (columns : List Ty) → is_single_of (kind_of expr) columns ≡ true → (sub : Sub) → IsOver node sub_kinds.In columns sub → Own (exprs.OneOf expr [] (list_type expr columns)) sub
  list_own expr columns test sub is =
      let type = list_type expr columns in
      (is.0, awaits_over node sub_kinds.In columns (OfList (ty_of expr) type) (own_of (exprs.OneOf expr [] type)) sub is (ap first_slot (slots-OneOf expr [] type)) (list_awaits expr columns test))

  only_waits : (needles : List Expression) → AllByRecursion IsWaitingExpr needles → MayBe IsWaitingExpr (only needles)
  only_waits [] all = tt
  only_waits (one ∷ []) all = all.0
  only_waits (one ∷ two ∷ rest) all = tt

  pub in_predicate_waits : (needles : List Expression) (written : Option (ℕ → Checking Rel)) → AllByRecursion IsWaitingExpr needles → MayBe IsWaitingRel written → InsideNode scope node (in_predicate scope node needles written)
  in_predicate_waits needles written all s =
      then (parted scope.relation IsWaitingExpr scope.relation _ (given_ok_or IsWaitingExpr (only needles) rules.UnsupportedForm (only_waits needles all)) nothing) (λ needle ok.
      then (ok scope nothing) (λ expr _.
      let now = slots_alone (slots_of expr) in
      then_made scope.relation (IsOver node sub_kinds.In) Own (λ columns. is_single_of (kind_of expr) columns ≡ true) Any (λ _. now) (inside scope) now (λ columns. exprs.OneOf expr [] (list_type expr columns))
      (λ columns p. (tt, ap (λ l. slots_alone (later_slots l)) (slots-OneOf expr [] (list_type expr columns)) ∙ ap slots_alone (append-nil (slots_of expr)), list_own expr columns p))
      (subquery scope node sub_kinds.In (is_single_of (kind_of expr)) written) (subquery_waits scope node sub_kinds.In (is_single_of (kind_of expr)) written s now)))

  -- false stands where it is awaited whether there is a row
  exists_own : (columns : List Ty) (sub : Sub) → IsOver node sub_kinds.Exists columns sub → Own (exprs.Const (values.Bool false) (type_with kinds.Bool false)) sub
  exists_own columns sub is =
      let type = type_with kinds.Bool false in
      (is.0, awaits_over node sub_kinds.Exists columns (OfValue type) (own_of (exprs.Const (values.Bool false) type)) sub is (ap first_slot (slots-Const (values.Bool false) type)) refl)

  pub set_predicate_waits : (predicate : ℕ) (written : Option (ℕ → Checking Rel)) → MayBe IsWaitingRel written → InsideNode scope node (set_predicate scope node predicate written)
  set_predicate_waits predicate written s =
      and_then (tested scope.relation scope.relation (predicate == 1) rules.UnsupportedForm nothing) (λ _ _.
      then_made scope.relation (IsOver node sub_kinds.Exists) Own (λ _. true ≡ true) Any (λ _. nothing) (inside scope) nothing (λ _. exprs.Const (values.Bool false) (type_with kinds.Bool false))
      (λ columns p. (tt, ap (λ l. slots_alone (later_slots l)) (slots-Const (values.Bool false) (type_with kinds.Bool false)), exists_own columns))
      (subquery scope node sub_kinds.Exists (λ _. true) written) (subquery_waits scope node sub_kinds.Exists (λ _. true) written s nothing))

  pub taken_waits : (terms : Terms) (check : Checking Expr) → InsideNode scope node check → InsideNode scope node (where_taken terms scope check)
  taken_waits terms check s = and_then (tested scope.relation scope.relation terms.with_subqueries rules.UnsupportedForm nothing) (λ _ _. s)
