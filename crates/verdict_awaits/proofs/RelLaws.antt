-- The checks of relations but for aggregates number their nodes, and the holes in them await what goes there.
use Rattle.std.proofs.Common.{◌≡◌, ◌∙◌, ℕ, ℤ, List, [], ◌∷◌, ◌++◌, Option, Some, None, Result, Ok, Err, map, refl, sym, ap}
use Rattle.std.specs.Prelude.{length}
use Rattle.std.specs.List.{AllByRecursion, flat_map}
use Rattle.std.specs.Option.{ok_or}
use Rattle.std.proofs.lemmas.List.{append-nil}
use Rattle.sub_types.specs.declared.kind.Ty.{Ty}
use Rattle.plan_leaves.specs.declared.common.RelCommon.{RelCommon}
use Rattle.plan_leaves.specs.declared.mask.MaskExpression.{MaskExpression}
use Rattle.plan_leaves.specs.declared.schema.NamedStruct.{NamedStruct}
use Rattle.plan_typed.specs.declared.rel.Op.{Op, out-Op, roll-Op, out-roll-Op}
use Rattle.plan_typed.specs.declared.rel.Op.TheOpen.{Op-F}
use Rattle.plan_typed.specs.declared.rel.Op.TheVariants as ops
use Rattle.plan_typed.specs.declared.rel.Rel.{Rel, Rel-F, out-Rel, out-roll-Rel}
use Rattle.plan_typed.specs.declared.rel.SortKey.{SortKey}
use Rattle.plan_typed.specs.declared.rel.Source.{Source}
use Rattle.plan_typed.specs.Types.{ty_of, columns_of}
use Rattle.well_typed.specs.Columns.{columns_at, join_columns}
use Rattle.well_typed.specs.WellTyped.{MayBe}
use Rattle.denote_typed.specs.Holes.{Slot, slots_of, slots_of_all, slots_of_maybe, slots_of_source}
use Rattle.plan_verdict.specs.declared.rule.Rule.{Rule}
use Rattle.plan_verdict.specs.declared.rule.Rule.TheVariants as rules
use Rattle.plan_verdict.specs.Amounts.{amounts_in}
use Rattle.plan_verdict.specs.Checking.{Checking}
use Rattle.plan_verdict.specs.Columns.{schema_in, mask_in, emitted, finished_in}
use Rattle.plan_verdict.specs.Exprs.{each_in}
use Rattle.plan_verdict.specs.Meaning.{Scope, Expression}
use Rattle.plan_verdict.specs.Relation.{finished}
use Rattle.plan_verdict.specs.Rels.{over, maybe_condition, read, filter, fetch, sort, sort_key, direction_of, join, join_kind, cross, project, set}
use Rattle.plan_verdict.specs.Sets.{first_and_others, set_op, set_columns_in, set_in}
use Rattle.plan_verdict.proofs.RelLaws.{anything_given}
use Rattle.plan_verdict.proofs.Sound.{Given, given_then, AllOf}
use Rattle.verdict_awaits.proofs.ExprLaws.{IsWaitingExpr, required_waits, condition_waits}
use Rattle.verdict_awaits.proofs.Levels.{part_of, part_of_op}
use Rattle.verdict_awaits.proofs.NumberLaws.{HasNumber, IsWaitingRel, input_waits, inputs_wait}
use Rattle.verdict_awaits.proofs.Parts.{Part, nothing, with_slots, same_part}
use Rattle.verdict_awaits.proofs.RowLaws.{IsWaitingSource}
use Rattle.verdict_awaits.proofs.Slots.{slots_of_each}
use Rattle.verdict_awaits.proofs.Waits.{Waits, Grows, none, Any, then, accepted, parted, each_grows, restated}

-- a relation of this number that does this
abbrev Does : ℕ → Op → Rel → Type 0
Does number op rel = ((out-Rel rel).number ≡ number) × ((out-Rel rel).op ≡ op)

-- a relation is finished over the nodes and inputs that it has
module _ (number : ℕ) (common : Option RelCommon) (op : Op) (direct : List Ty) (level : Op-F Op Rel) (rolls : roll-Op level ≡ op) where
  pub finished_given : Given (Does number op) (finished_in number common op direct)
  finished_given =
      given_then (λ _. Unit {0}) (Does number op) (emitted common direct) _ (anything_given (emitted common direct)) (λ emit _.
      let opened = out-roll-Rel (record { number = number; op = op; emit = emit; columns = columns_at direct emit }) in
      (ap (λ (rel : Rel-F Op Rel). rel.number) opened, ap (λ (rel : Rel-F Op Rel). rel.op) opened))

  pub does_level : (rel : Rel) → Does number op rel → HasNumber number rel × (part_of rel ≡ part_of_op level)
  does_level rel does = (does.0, ap (λ (one : Op). part_of_op (out-Op one)) (does.1 ∙ sym rolls) ∙ ap part_of_op (out-roll-Op level))

  pub finished_waits : Waits number none (HasNumber number) part_of (part_of_op level) (finished number common op direct)
  finished_waits =
      restated number none (Does number op) (HasNumber number) (λ _. part_of_op level) part_of (part_of_op level) (finished number common op direct) does_level
      (parted number (Does number op) number (finished_in number common op direct) finished_given (part_of_op level))

-- a condition that may be absent
pub maybe_waits : (scope : Scope) (written : Option Expression) → MayBe IsWaitingExpr written → Grows scope.relation Any slots_of_maybe (maybe_condition scope written)
maybe_waits scope None ok start = accepted scope.relation none Any (λ expr. with_slots start (slots_of_maybe expr)) start None tt (same_part (with_slots start []) start (append-nil start.slots) refl)
maybe_waits scope (Some written) ok start =
    then (condition_waits scope (Some written) ok start) (λ expr _. accepted scope.relation none Any (λ one. with_slots start (slots_of_maybe one)) (with_slots start (slots_of expr)) (Some expr) tt refl)

-- a key of a sort
abbrev pub slots_of_key : SortKey → List Slot
slots_of_key key = slots_of key.expr

abbrev pub IsWaitingKey : (Scope → Checking SortKey) → Type 0
IsWaitingKey key = (scope : Scope) → Grows scope.relation Any slots_of_key (key scope)

pub sort_key_waits : (written : Option Expression) (direction : ℕ) → MayBe IsWaitingExpr written → IsWaitingKey (sort_key written direction)
sort_key_waits written direction ok scope start =
    then (required_waits scope written ok start) (λ expr _.
    let now = with_slots start (slots_of expr) in
    then (parted scope.relation Any scope.relation (ok_or (direction_of direction) rules.UnsupportedForm) (anything_given (ok_or (direction_of direction) rules.UnsupportedForm)) now) (λ found _.
    accepted scope.relation none Any (λ key. with_slots start (slots_of_key key)) now (record { expr = expr; descending = found.0; nulls_first = found.1 }) tt refl))

-- each of these expressions
pub each_waits : (scope : Scope) (expressions : List Expression) → AllByRecursion IsWaitingExpr expressions → Grows scope.relation Any slots_of_all (each_in scope expressions)
each_waits scope expressions all start =
    restated scope.relation none (AllOf Any (length expressions)) Any (λ exprs. with_slots start (flat_map slots_of exprs)) (λ exprs. with_slots start (slots_of_all exprs)) start (each_in scope expressions) (λ exprs _. (tt, ap (with_slots start) (slots_of_each exprs)))
    (each_grows scope.relation Any slots_of IsWaitingExpr (λ (e : Expression). e.check scope) expressions all (λ e q. q scope) start)

given_known : {A : Type 0} (P Q : A → Type 0) (r : Result A Rule) → ((value : A) → P value → Q value) → Given P r → Given Q r
given_known P Q (Ok value) k p = k value p
given_known P Q (Err rule) k p = tt

-- the nodes and inputs of a relation
abbrev pub holding : List Slot → List Rel → Part
holding slots rels = record { slots = slots; rels = rels }

module _ (number : ℕ) (common : Option RelCommon) where
  abbrev IsWhole : Checking Rel → Type 0
  IsWhole check = Waits number none (HasNumber number) part_of nothing check

  pub read_waits : (schema : Option NamedStruct) (filter : Option Expression) (projection : Option MaskExpression) (source : ℕ → List Ty → Checking Source) → MayBe IsWaitingExpr filter → IsWaitingSource source → IsWhole (read number common schema filter projection source)
  read_waits schema filter projection source ok rows =
      then (parted number Any number (schema_in schema) (anything_given (schema_in schema)) nothing) (λ found _.
      then (rows number found.1 nothing) (λ table _.
      then (maybe_waits (over number found.1) filter ok (holding (slots_of_source table) [])) (λ kept _.
      let now = holding (slots_of_source table ++ slots_of_maybe kept) [] in
      then (parted number Any number (mask_in (length found.1) projection) (anything_given (mask_in (length found.1) projection)) now) (λ mask _.
      finished_waits number common (ops.Read table found.0 found.1 kept mask) (columns_at found.1 mask) (Op-F.Read table found.0 found.1 kept mask) (ops.rolls-Read table found.0 found.1 kept mask)))))

  pub filter_waits : (written : Option (ℕ → Checking Rel)) (test : Option Expression) → MayBe IsWaitingRel written → MayBe IsWaitingExpr test → IsWhole (filter number common written test)
  filter_waits written test s ok =
      then (input_waits number nothing written s) (λ rel _.
      then (condition_waits (over number (columns_of rel)) test ok (holding [] (rel ∷ []))) (λ expr _.
      finished_waits number common (ops.Filter rel expr) (columns_of rel) (Op-F.Filter rel expr) (ops.rolls-Filter rel expr)))

  pub fetch_waits : (written : Option (ℕ → Checking Rel)) (from many : Option (Option ℤ)) → MayBe IsWaitingRel written → IsWhole (fetch number common written from many)
  fetch_waits written from many s =
      then (input_waits number nothing written s) (λ rel _.
      then (parted number Any number (amounts_in from many) (anything_given (amounts_in from many)) (holding [] (rel ∷ []))) (λ amounts _.
      finished_waits number common (ops.Fetch rel amounts.0 amounts.1) (columns_of rel) (Op-F.Fetch rel amounts.0 amounts.1) (ops.rolls-Fetch rel amounts.0 amounts.1)))

  pub sort_waits : (written : Option (ℕ → Checking Rel)) (sorts : List (Scope → Checking SortKey)) → MayBe IsWaitingRel written → AllByRecursion IsWaitingKey sorts → IsWhole (sort number common written sorts)
  sort_waits written sorts s all =
      then (input_waits number nothing written s) (λ rel _.
      let scope = over number (columns_of rel) in
      then (each_grows number Any slots_of_key IsWaitingKey (λ key. key scope) sorts all (λ key q. q scope) (holding [] (rel ∷ []))) (λ keys _.
      finished_waits number common (ops.Sort rel keys) (columns_of rel) (Op-F.Sort rel keys) (ops.rolls-Sort rel keys)))

  pub project_waits : (written : Option (ℕ → Checking Rel)) (expressions : List Expression) → MayBe IsWaitingRel written → AllByRecursion IsWaitingExpr expressions → IsWhole (project number common written expressions)
  project_waits written expressions s all =
      then (input_waits number nothing written s) (λ rel _.
      let scope = over number (columns_of rel) in
      then (each_waits scope expressions all (holding [] (rel ∷ []))) (λ exprs _.
      finished_waits number common (ops.Project rel exprs) (columns_of rel ++ map ty_of exprs) (Op-F.Project rel exprs) (ops.rolls-Project rel exprs)))

  pub cross_waits : (left right : Option (ℕ → Checking Rel)) → MayBe IsWaitingRel left → MayBe IsWaitingRel right → IsWhole (cross number common left right)
  cross_waits left right s s' =
      then (input_waits number nothing left s) (λ l _.
      then (input_waits number (holding [] (l ∷ [])) right s') (λ r _.
      finished_waits number common (ops.Cross l r) (columns_of l ++ columns_of r) (Op-F.Cross l r) (ops.rolls-Cross l r)))

  pub join_waits : (left right : Option (ℕ → Checking Rel)) (expression post_filter : Option Expression) (type : ℕ) → MayBe IsWaitingRel left → MayBe IsWaitingRel right → MayBe IsWaitingExpr expression → MayBe IsWaitingExpr post_filter
      → IsWhole (join number common left right expression post_filter type)
  join_waits left right expression post_filter type s s' ok ok' =
      then (input_waits number nothing left s) (λ l _.
      then (input_waits number (holding [] (l ∷ [])) right s') (λ r _.
      let both = l ∷ r ∷ [] in
      then (parted number Any number (ok_or (join_kind type) rules.UnsupportedForm) (anything_given (ok_or (join_kind type) rules.UnsupportedForm)) (holding [] both)) (λ kind _.
      then (condition_waits (over number (columns_of l ++ columns_of r)) expression ok (holding [] both)) (λ on _.
      let direct = join_columns kind (columns_of l) (columns_of r) in
      then (maybe_waits (over number direct) post_filter ok' (holding (slots_of on) both)) (λ post _.
      finished_waits number common (ops.Join l r kind on post) direct (Op-F.Join l r kind on post) (ops.rolls-Join l r kind on post))))))

  -- SetRel
  set_given : (rels : List Rel) (code : ℕ) → Given (λ rel. HasNumber number rel × (part_of rel ≡ holding [] rels)) (set_in number common rels code)
  set_given rels code =
      let columns = map columns_of rels in
      let Is : Rel → Type 0 = λ rel. HasNumber number rel × (part_of rel ≡ holding [] rels) in
      given_then (λ _. Unit {0}) Is (ok_or (first_and_others columns) rules.UnsupportedForm) _ (anything_given (ok_or (first_and_others columns) rules.UnsupportedForm)) (λ parts _.
      given_then (λ _. Unit {0}) Is (ok_or (set_op code) rules.UnsupportedForm) _ (anything_given (ok_or (set_op code) rules.UnsupportedForm)) (λ op _.
      given_then (λ _. Unit {0}) Is (set_columns_in op parts.0 parts.1) _ (anything_given (set_columns_in op parts.0 parts.1)) (λ direct _.
      given_known (Does number (ops.Set rels op)) Is (finished_in number common (ops.Set rels op) direct) (does_level number common (ops.Set rels op) direct (Op-F.Set rels op) (ops.rolls-Set rels op))
      (finished_given number common (ops.Set rels op) direct (Op-F.Set rels op) (ops.rolls-Set rels op)))))

  pub set_waits : (written : List (ℕ → Checking Rel)) (code : ℕ) → AllByRecursion IsWaitingRel written → IsWhole (set number common written code)
  set_waits written code all =
      then (inputs_wait number written all nothing) (λ rels _.
      let Is : Rel → Type 0 = λ rel. HasNumber number rel × (part_of rel ≡ holding [] rels) in
      restated number none Is (HasNumber number) (λ _. holding [] rels) part_of (holding [] rels) _ (λ rel is. is)
      (parted number Is number (set_in number common rels code) (set_given rels code) (holding [] rels)))
