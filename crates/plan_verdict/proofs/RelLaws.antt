-- The checks of relations but for aggregates give well-typed ones.
use Rattle.std.proofs.Common.{◌≡◌, ◌≤◌, ◌<◌, ℕ, ℤ, pos, negsuc, List, [], ◌∷◌, ◌++◌, Bool, true, false, cond, Option, Some, None, Result, Ok, Err, map, refl, sym, subst, arith}
use Rattle.std.specs.Prelude.{length, nat_le, nat_lt}
use Rattle.std.specs.List.{AllByRecursion, range_with_len}
use Rattle.std.specs.Option.{ok_or}
use Rattle.std.proofs.lemmas.Bool.Decides.{nat_tests}
use Rattle.sub_types.specs.ResultSteps.{collect}
use Rattle.sub_types.specs.declared.kind.Ty.{Ty}
use Rattle.plan_leaves.specs.declared.common.RelCommon.{RelCommon}
use Rattle.plan_leaves.specs.declared.common.RelCommon.TheVariants as commons
use Rattle.plan_typed.specs.declared.rel.Op.{Op, roll-Op}
use Rattle.plan_typed.specs.declared.rel.Op.TheOpen.{Op-F}
use Rattle.plan_typed.specs.declared.rel.Op.TheVariants as ops
use Rattle.plan_typed.specs.declared.rel.Rel.{Rel}
use Rattle.plan_typed.specs.declared.rel.SortKey.{SortKey}
use Rattle.plan_typed.specs.Numbers.{numbers_of}
use Rattle.plan_typed.specs.Types.{ty_of, columns_of}
use Rattle.well_typed.specs.Columns.{MAX_COLUMNS, columns_at, join_columns}
use Rattle.well_typed.specs.ExprTyped.{IsTypedOver}
use Rattle.well_typed.specs.WellTyped.{MayBe, AreTyped, HasParts, direct_in, AreAll, AreBelow, IsConditionOver}
use Rattle.well_typed.proofs.ValidColumns.{append_valid, join_valid, typed_columns}
use Rattle.well_typed.proofs.ValidKinds.{AreKinds}
use Rattle.well_typed.proofs.MadeRel.{HasInputs, rel_typed, inner_numbers, numbers_made, all_same, all_length, all_at, all_places, range_length}
use Rattle.plan_verdict.specs.declared.rule.Rule.{Rule}
use Rattle.plan_verdict.specs.declared.rule.Rule.TheVariants as rules
use Rattle.plan_verdict.specs.Checking.{Checking}
use Rattle.plan_verdict.specs.Columns.{place_in, places_in, emit_in, finished_in}
use Rattle.plan_verdict.specs.Meaning.{Scope, Expression}
use Rattle.plan_verdict.specs.Relation.{finished}
use Rattle.plan_verdict.specs.Rels.{over, maybe_condition, filter, fetch, sort, sort_key, direction_of, join, join_kind, cross, project}
use Rattle.plan_verdict.specs.Amounts.{amounts_in}
use Rattle.plan_verdict.proofs.ExprLaws.{IsSoundExpr, required_sound, condition_sound}
use Rattle.plan_verdict.proofs.NumberLaws.{IsSoundRel, input_sound}
use Rattle.plan_verdict.proofs.Sound.{Sound, Quiet, holds_is, reheld, times, times-append, times-cons, then, accepted, parted, same_held, Given, given_then, given_ok_or, given_if, given_collect, AllOf, each_sound}

pub anything_given : {A : Type 0} (r : Result A Rule) → Given (λ _. Unit {0}) r
anything_given (Ok x) = tt
anything_given (Err rule) = tt

-- a place is below the count
place_below : (count place : ℕ) (test : Bool) → nat_lt place count ≡ test → MayBe (λ p. p < count) (cond test (Some place) None)
place_below count place true e = grind (arith, nat_tests)
place_below count place false e = tt

pub place_sound : (count : ℕ) (field : ℤ) → MayBe (λ p. p < count) (place_in count field)
place_sound count (pos place) = place_below count place (nat_lt place count) refl
place_sound count (negsuc place) = tt

-- what is emitted: places of the columns, not too many
abbrev Emitted : ℕ → List ℕ → Type 0
Emitted count emit = AreBelow count emit × (length emit ≤ MAX_COLUMNS)

places_sound : (count : ℕ) (mapping : List ℤ) → Given (Emitted count) (places_in count mapping)
places_sound count mapping =
    given_then (AllOf (λ p. p < count) (length mapping)) (Emitted count) (collect (map (λ field. ok_or (place_in count field) rules.BadMapping) mapping)) _
    (given_collect (λ p. p < count) (λ field. ok_or (place_in count field) rules.BadMapping) mapping (λ field. given_ok_or (λ p. p < count) (place_in count field) rules.BadMapping (place_sound count field)))
    (λ places p. given_if (Emitted count) (nat_le (length mapping) MAX_COLUMNS) places rules.TooMany (λ test. (p.0, grind (arith, nat_tests, p.1))))

all_emitted : (count : ℕ) → count ≤ MAX_COLUMNS → Emitted count (range_with_len 0 count)
all_emitted count h = (all_places count, omega (arith, range_length count, h))

emit_sound : (count : ℕ) (common : Option RelCommon) → count ≤ MAX_COLUMNS → Given (Emitted count) (emit_in count common)
emit_sound count (Some (commons.Emit mapping)) h = places_sound count mapping
emit_sound count (Some commons.Direct) h = all_emitted count h
emit_sound count (Some commons.Missing) h = all_emitted count h
emit_sound count None h = all_emitted count h

emitted_where : (common : Option RelCommon) (count : ℕ) (test : Bool) → nat_le count MAX_COLUMNS ≡ test → Given (λ emit. Emitted count emit × (count ≤ MAX_COLUMNS)) (cond test (emit_in count common) (Err rules.TooMany))
emitted_where common count true e =
    let few : count ≤ MAX_COLUMNS = grind (arith, nat_tests) in
    given_more (Emitted count) (count ≤ MAX_COLUMNS) (emit_in count common) few (emit_sound count common few)
  where
    given_more : {A : Type 0} (P : A → Type 0) (B : Type 0) (r : Result A Rule) → B → Given P r → Given (λ x. P x × B) r
    given_more P B (Ok x) b p = (p, b)
    given_more P B (Err rule) b p = tt
emitted_where common count false e = tt

-- a relation is finished: its parts and inputs are well typed, its columns as implied, and the numbers held its own and its inputs'
module _ (number : ℕ) (common : Option RelCommon) (op : Op) (direct : List Ty) (level : Op-F Op Rel) (rolls : roll-Op level ≡ op) where
  pub finished_given : HasInputs level → HasParts level → AreAll (direct_in level) direct
      → Given (λ rel. AreTyped rel × (numbers_of rel ≡ number ∷ inner_numbers number op [] [] level rolls)) (finished_in number common op direct)
  finished_given inputs parts implied =
      given_then (λ emit. Emitted (length direct) emit × (length direct ≤ MAX_COLUMNS)) (λ rel. AreTyped rel × (numbers_of rel ≡ number ∷ inner_numbers number op [] [] level rolls)) _ _
      (emitted_where common (length direct) (nat_le (length direct) MAX_COLUMNS) refl) (λ emit e.
      let same = all_length (direct_in level) direct implied in (
        rel_typed number op emit (columns_at direct emit) level rolls inputs parts (record {
          few = omega (arith, e.1, same);
          few_emitted = e.0.1;
          places = subst (λ count. AreBelow count emit) (sym same) e.0.0;
          as_implied = all_at (direct_in level) direct emit implied;
        }),
        numbers_made number op emit (columns_at direct emit) level rolls,
      ))

  pub finished_sound : (held extra : List ℕ) → HasInputs level → HasParts level → AreAll (direct_in level) direct
      → ((n : ℕ) → times n ((number ∷ inner_numbers number op [] [] level rolls) ++ extra) ≤ times n held)
      → Sound AreTyped (λ rel. numbers_of rel ++ extra) held (finished number common op direct)
  finished_sound held extra inputs parts implied less =
      reheld (λ rel. AreTyped rel × (numbers_of rel ≡ number ∷ inner_numbers number op [] [] level rolls)) AreTyped (λ rel. numbers_of rel ++ extra) held (finished number common op direct)
      (λ rel p. (p.0, holds_is (numbers_of rel ++ extra) held (λ n. subst (λ l. times n (l ++ extra) ≤ times n held) (sym p.1) (less n))))
      (parted (λ rel. AreTyped rel × (numbers_of rel ≡ number ∷ inner_numbers number op [] [] level rolls)) held number (finished_in number common op direct) (finished_given inputs parts implied))

-- a condition that may be absent
pub maybe_sound : (scope : Scope) (valid : AreKinds scope.columns) (written : Option Expression) → MayBe IsSoundExpr written → Quiet (MayBe (IsConditionOver scope.columns)) (maybe_condition scope written)
maybe_sound scope valid None ok extra = accepted (MayBe (IsConditionOver scope.columns)) (λ _. extra) extra None tt (same_held extra)
maybe_sound scope valid (Some written) ok extra =
    then (condition_sound scope valid (Some written) ok extra) (λ expr is. accepted (MayBe (IsConditionOver scope.columns)) (λ _. extra) extra (Some expr) is (same_held extra))

-- a key of a sort, over any columns of valid kinds
abbrev pub IsSoundKey : (Scope → Checking SortKey) → Type 0
IsSoundKey key = (scope : Scope) → AreKinds scope.columns → Quiet (λ (k : SortKey). IsTypedOver scope.columns k.expr) (key scope)

pub sort_key_sound : (written : Option Expression) (direction : ℕ) (scope : Scope) → AreKinds scope.columns → MayBe IsSoundExpr written → Quiet (λ (key : SortKey). IsTypedOver scope.columns key.expr) (sort_key written direction scope)
sort_key_sound written direction scope valid ok extra =
    then (required_sound scope valid written ok extra) (λ expr typed.
    then (parted (λ _. Unit {0}) extra scope.relation (ok_or (direction_of direction) rules.UnsupportedForm) (anything_given (ok_or (direction_of direction) rules.UnsupportedForm))) (λ found _.
    accepted (λ (key : SortKey). IsTypedOver scope.columns key.expr) (λ _. extra) extra (record { expr = expr; descending = found.0; nulls_first = found.1 }) typed (same_held extra)))

module _ (number : ℕ) (common : Option RelCommon) where
  abbrev held_with : List ℕ → Rel → List ℕ
  held_with extra rel = numbers_of rel ++ extra

  -- the numbers of a relation with one input, and with two
  pub one_input : (n : ℕ) (inner extra : List ℕ) → times n ((number ∷ inner) ++ extra) ≤ times n (inner ++ (number ∷ extra))
  one_input n inner extra = omega (arith, times-append n (number ∷ inner) extra, times-cons n number inner, times-append n inner (number ∷ extra), times-cons n number extra)

  two_inputs : (n : ℕ) (left right extra : List ℕ) → times n ((number ∷ (left ++ right)) ++ extra) ≤ times n (right ++ (left ++ (number ∷ extra)))
  two_inputs n left right extra = omega (arith, times-append n (number ∷ (left ++ right)) extra, times-cons n number (left ++ right), times-append n left right, times-append n right (left ++ (number ∷ extra)), times-append n left (number ∷ extra), times-cons n number extra)

  pub filter_sound : (written : Option (ℕ → Checking Rel)) (test : Option Expression) → MayBe IsSoundRel written → MayBe IsSoundExpr test → (extra : List ℕ) → Sound AreTyped (λ rel. numbers_of rel ++ extra) (number ∷ extra) (filter number common written test)
  filter_sound written test s ok extra =
      then (input_sound (number ∷ extra) number written s) (λ rel typed.
      then (condition_sound (over number (columns_of rel)) (typed_columns rel typed) test ok (numbers_of rel ++ (number ∷ extra))) (λ expr is.
      finished_sound number common (ops.Filter rel expr) (columns_of rel) (Op-F.Filter rel expr) (ops.rolls-Filter rel expr) (numbers_of rel ++ (number ∷ extra)) extra typed is (all_same (columns_of rel)) (λ n. one_input n (numbers_of rel) extra)))

  pub fetch_sound : (written : Option (ℕ → Checking Rel)) (from many : Option (Option ℤ)) → MayBe IsSoundRel written → (extra : List ℕ) → Sound AreTyped (λ rel. numbers_of rel ++ extra) (number ∷ extra) (fetch number common written from many)
  fetch_sound written from many s extra =
      then (input_sound (number ∷ extra) number written s) (λ rel typed.
      let held = numbers_of rel ++ (number ∷ extra) in
      then (parted (λ _. Unit {0}) held number (amounts_in from many) (anything_given (amounts_in from many))) (λ amounts _.
      finished_sound number common (ops.Fetch rel amounts.0 amounts.1) (columns_of rel) (Op-F.Fetch rel amounts.0 amounts.1) (ops.rolls-Fetch rel amounts.0 amounts.1) held extra typed tt (all_same (columns_of rel)) (λ n. one_input n (numbers_of rel) extra)))

  pub sort_sound : (written : Option (ℕ → Checking Rel)) (sorts : List (Scope → Checking SortKey)) → MayBe IsSoundRel written → AllByRecursion IsSoundKey sorts
      → (extra : List ℕ) → Sound AreTyped (λ rel. numbers_of rel ++ extra) (number ∷ extra) (sort number common written sorts)
  sort_sound written sorts s all extra =
      then (input_sound (number ∷ extra) number written s) (λ rel typed.
      let held = numbers_of rel ++ (number ∷ extra) in
      let scope = over number (columns_of rel) in
      then (each_sound (λ (k : SortKey). IsTypedOver (columns_of rel) k.expr) IsSoundKey (λ key. key scope) sorts all (λ key q. q scope (typed_columns rel typed)) held) (λ keys p.
      finished_sound number common (ops.Sort rel keys) (columns_of rel) (Op-F.Sort rel keys) (ops.rolls-Sort rel keys) held extra typed p.0 (all_same (columns_of rel)) (λ n. one_input n (numbers_of rel) extra)))

  pub project_sound : (written : Option (ℕ → Checking Rel)) (expressions : List Expression) → MayBe IsSoundRel written → AllByRecursion IsSoundExpr expressions → (extra : List ℕ) → Sound AreTyped (λ rel. numbers_of rel ++ extra) (number ∷ extra) (project number common written expressions)
  project_sound written expressions s all extra =
      then (input_sound (number ∷ extra) number written s) (λ rel typed.
      let held = numbers_of rel ++ (number ∷ extra) in
      let scope = over number (columns_of rel) in
      then (each_sound (IsTypedOver (columns_of rel)) IsSoundExpr (λ (e : Expression). e.check scope) expressions all (λ e q. q scope (typed_columns rel typed)) held) (λ exprs p.
      finished_sound number common (ops.Project rel exprs) (columns_of rel ++ map ty_of exprs) (Op-F.Project rel exprs) (ops.rolls-Project rel exprs) held extra typed p.0 (all_same (columns_of rel ++ map ty_of exprs)) (λ n. one_input n (numbers_of rel) extra)))

  pub cross_sound : (left right : Option (ℕ → Checking Rel)) → MayBe IsSoundRel left → MayBe IsSoundRel right → (extra : List ℕ) → Sound AreTyped (λ rel. numbers_of rel ++ extra) (number ∷ extra) (cross number common left right)
  cross_sound left right s s' extra =
      then (input_sound (number ∷ extra) number left s) (λ l typed.
      then (input_sound (numbers_of l ++ (number ∷ extra)) number right s') (λ r typed'.
      finished_sound number common (ops.Cross l r) (columns_of l ++ columns_of r) (Op-F.Cross l r) (ops.rolls-Cross l r) (numbers_of r ++ (numbers_of l ++ (number ∷ extra))) extra (typed, typed') tt (all_same (columns_of l ++ columns_of r)) (λ n. two_inputs n (numbers_of l) (numbers_of r) extra)))

  pub join_sound : (left right : Option (ℕ → Checking Rel)) (expression post_filter : Option Expression) (type : ℕ) → MayBe IsSoundRel left → MayBe IsSoundRel right → MayBe IsSoundExpr expression → MayBe IsSoundExpr post_filter
      → (extra : List ℕ) → Sound AreTyped (λ rel. numbers_of rel ++ extra) (number ∷ extra) (join number common left right expression post_filter type)
  join_sound left right expression post_filter type s s' ok ok' extra =
      then (input_sound (number ∷ extra) number left s) (λ l typed.
      then (input_sound (numbers_of l ++ (number ∷ extra)) number right s') (λ r typed'.
      let held = numbers_of r ++ (numbers_of l ++ (number ∷ extra)) in
      then (parted (λ _. Unit {0}) held number (ok_or (join_kind type) rules.UnsupportedForm) (anything_given (ok_or (join_kind type) rules.UnsupportedForm))) (λ kind _.
      then (condition_sound (over number (columns_of l ++ columns_of r)) (append_valid (columns_of l) (columns_of r) (typed_columns l typed) (typed_columns r typed')) expression ok held) (λ on is.
      then (maybe_sound (over number (join_columns kind (columns_of l) (columns_of r))) (join_valid kind (columns_of l) (columns_of r) (typed_columns l typed) (typed_columns r typed')) post_filter ok' held) (λ post may.
      let direct = join_columns kind (columns_of l) (columns_of r) in
      finished_sound number common (ops.Join l r kind on post) direct (Op-F.Join l r kind on post) (ops.rolls-Join l r kind on post) held extra (typed, typed') (is, may) (all_same direct) (λ n. two_inputs n (numbers_of l) (numbers_of r) extra))))))
