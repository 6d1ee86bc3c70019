-- The rows of well-typed relations fit their columns.
use Rattle.std.proofs.Common.{◌≡◌, ◌∙◌, ℕ, List, [], ◌∷◌, map, sym, ap, subst}
use Rattle.std.specs.List.{AllByRecursion}
use Rattle.sub_types.specs.Stream.{Stream}
use Rattle.sub_types.specs.Value.{Fits}
use Rattle.plan_typed.specs.declared.rel.Op.{Op, out-Op, roll-Op, out-roll-Op, roll-out-Op, map-Op, every-Op}
use Rattle.plan_typed.specs.declared.rel.Op.TheFolds.{ind-Rel, every_here-Rel, every_held-Op, every_held-Rel}
use Rattle.plan_typed.specs.declared.rel.Op.TheOpen.{Op-F}
use Rattle.plan_typed.specs.declared.rel.Op.TheVariants.{rolls-Read, rolls-Filter, rolls-Project, rolls-Fetch, rolls-Sort, rolls-Aggregate, rolls-GroupSets, rolls-Join, rolls-Cross, rolls-Set}
use Rattle.plan_typed.specs.declared.rel.Rel.{Rel, Rel-F, out-Rel, roll-Rel, out-roll-Rel, map-Rel}
use Rattle.plan_typed.specs.declared.expr.Expr.{Expr}
use Rattle.plan_typed.specs.declared.rel.JoinKind.{JoinKind}
use Rattle.plan_typed.specs.Types.{columns_of}
use Rattle.well_typed.specs.Columns.{columns_at, join_columns}
use Rattle.well_typed.proofs.ValidKinds.{With, all_held, all_both}
use Rattle.well_typed.specs.WellTyped.{IsRelation, AreTyped, HasParts, direct_in}
use Rattle.plan_denote.proofs.DenoteLaws.{direct-Read, direct-Filter, direct-Project, direct-Fetch, direct-Sort, direct-Aggregate, direct-GroupSets, direct-Join, direct-Cross, direct-Set, denotes, width_is}
use Rattle.plan_denote.specs.Rows.{Row}
use Rattle.plan_denote.specs.Eval.{eval}
use Rattle.plan_denote.specs.Join.{joined}
use Rattle.plan_denote.specs.Project.{emitted}
use Rattle.plan_denote.specs.Denote.{Tables, direct, denote, answer_of, maybe_condition, source_rows, direction_of, join_of}
use Rattle.denote_typed.specs.Kinded.{IsKindedRead, IsKindedRel, AreWellKinded}
use Rattle.denote_typed.proofs.EachLaws.{filtered_all, projected_fits, emitted_fits, fetched_all, sorted_all}
use Rattle.denote_typed.proofs.FitLaws.{as_given}
use Rattle.denote_typed.proofs.GroupLaws.{aggregated_fits}
use Rattle.denote_typed.proofs.GroupSetLaws.{grouping_sets_fit}
use Rattle.denote_typed.proofs.JoinLaws.{joined_fits, crossed_fits}
use Rattle.denote_typed.proofs.ReadLaws.{read_fits, source_kinds}
use Rattle.denote_typed.proofs.RowsLaws.{Rows, weakened}
use Rattle.denote_typed.proofs.SetLaws.{AreInputsOf, rows_of, set_fits}

-- what holds of the inputs of an operation
abbrev pub Inputs : (Rel → Type 0) → Op-F Op Rel → Type 0
Inputs P (Op-F.Read source names types filter mask) = Unit {0}
Inputs P (Op-F.Filter input condition) = P input
Inputs P (Op-F.Project input exprs) = P input
Inputs P (Op-F.Fetch input offset count) = P input
Inputs P (Op-F.Sort input keys) = P input
Inputs P (Op-F.Aggregate input groups measures) = P input
Inputs P (Op-F.GroupSets input groups sets measures) = P input
Inputs P (Op-F.Join left right kind on post) = P left × P right
Inputs P (Op-F.Cross left right) = P left × P right
Inputs P (Op-F.Set inputs op) = AllByRecursion P inputs

pub held_inputs : (O : Op → Type 0) (P : Rel → Type 0) (z : Op-F (With O) (With P)) → Inputs P (map-Op (With O) (With P) Op Rel (λ e. e.0) (λ e. e.0) z)
held_inputs O P (Op-F.Read source names types filter mask) = tt
held_inputs O P (Op-F.Filter input condition) = input.1
held_inputs O P (Op-F.Project input exprs) = input.1
held_inputs O P (Op-F.Fetch input offset count) = input.1
held_inputs O P (Op-F.Sort input keys) = input.1
held_inputs O P (Op-F.Aggregate input groups measures) = input.1
held_inputs O P (Op-F.GroupSets input groups sets measures) = input.1
held_inputs O P (Op-F.Join left right kind on post) = (left.1, right.1)
held_inputs O P (Op-F.Cross left right) = (left.1, right.1)
held_inputs O P (Op-F.Set inputs op) = all_held P inputs

pub both_inputs : (P Q R : Rel → Type 0) (level : Op-F Op Rel) → ((one : Rel) → P one → Q one → R one) → Inputs P level → Inputs Q level → Inputs R level
both_inputs P Q R (Op-F.Read source names types filter mask) k first second = tt
both_inputs P Q R (Op-F.Filter input condition) k first second = k input first second
both_inputs P Q R (Op-F.Project input exprs) k first second = k input first second
both_inputs P Q R (Op-F.Fetch input offset count) k first second = k input first second
both_inputs P Q R (Op-F.Sort input keys) k first second = k input first second
both_inputs P Q R (Op-F.Aggregate input groups measures) k first second = k input first second
both_inputs P Q R (Op-F.GroupSets input groups sets measures) k first second = k input first second
both_inputs P Q R (Op-F.Join left right kind on post) k first second = (k left first.0 second.0, k right first.1 second.1)
both_inputs P Q R (Op-F.Cross left right) k first second = (k left first.0 second.0, k right first.1 second.1)
both_inputs P Q R (Op-F.Set inputs op) k first second = all_both P Q R inputs k first second

module _ (tables : Tables) where
  -- each row of a relation fits its columns
  abbrev Fit : Rel → Type 0
  Fit rel = Rows (Fits (columns_of rel)) (denote tables rel)

  inputs_fit : (inputs : List Rel) → AllByRecursion Fit inputs → AreInputsOf (map columns_of inputs) (rows_of (map (denote tables) inputs))
  inputs_fit [] all = tt
  inputs_fit (input ∷ inputs) all = (all.0, inputs_fit inputs all.1)

  -- what an operation gives, by the variant that it rolls into
  by_level : (level : Op-F Op Rel) (op : Op) (number : ℕ) (rows : Stream Row) → roll-Op level ≡ op → direct tables op number ≡ rows → Rows (Fits (direct_in level)) rows → Rows (Fits (direct_in level)) (direct tables (roll-Op level) number)
  by_level level op number rows rolls is fits = subst (Rows (Fits (direct_in level))) (sym (ap (λ one. direct tables one number) rolls ∙ is)) fits

  join_fits : (number : ℕ) (left right : Rel) (kind : JoinKind) (on : Expr) → Fit left × Fit right
      → Rows (Fits (join_columns kind (columns_of left) (columns_of right))) (joined kind (join_of number (answer_of tables left).width (answer_of tables right).width on) (denote tables left) (denote tables right))
  unfolding join_of
  join_fits number left right kind on fit =
      joined_fits (columns_of left) (columns_of right) kind (join_of number (answer_of tables left).width (answer_of tables right).width on) (denote tables left) (denote tables right)
      (width_is tables left) (width_is tables right) fit.0 fit.1

  level_fits : (level : Op-F Op Rel) (number : ℕ) → HasParts level → IsKindedRead level (tables number) → Inputs Fit level → Rows (Fits (direct_in level)) (direct tables (roll-Op level) number)
  level_fits (Op-F.Read source names types filter mask) number parts kinded inputs =
      by_level (Op-F.Read source names types filter mask) _ number _ (rolls-Read source names types filter mask) (direct-Read tables source names types filter mask number)
      (read_fits types (maybe_condition filter) mask number (source_rows tables number source) parts.4 (source_kinds tables number types source parts.2 kinded))
  level_fits (Op-F.Filter input test) number parts kinded fit =
      by_level (Op-F.Filter input test) _ number _ (rolls-Filter input test) (direct-Filter tables input test number)
      (filtered_all (Fits (columns_of input)) number (eval test) (denote tables input) fit)
  level_fits (Op-F.Project input exprs) number parts kinded fit =
      by_level (Op-F.Project input exprs) _ number _ (rolls-Project input exprs) (direct-Project tables input exprs number)
      (projected_fits (columns_of input) exprs number (denote tables input) parts fit)
  level_fits (Op-F.Fetch input offset count) number parts kinded fit =
      by_level (Op-F.Fetch input offset count) _ number _ (rolls-Fetch input offset count) (direct-Fetch tables input offset count number)
      (fetched_all (Fits (columns_of input)) offset count (denote tables input) fit)
  level_fits (Op-F.Sort input keys) number parts kinded fit =
      by_level (Op-F.Sort input keys) _ number _ (rolls-Sort input keys) (direct-Sort tables input keys number)
      (sorted_all (Fits (columns_of input)) number (map (λ key. eval key.expr) keys) (map direction_of keys) (denote tables input) fit)
  level_fits (Op-F.Aggregate input groups measures) number parts kinded fit =
      by_level (Op-F.Aggregate input groups measures) _ number _ (rolls-Aggregate input groups measures) (direct-Aggregate tables input groups measures number)
      (aggregated_fits (columns_of input) groups measures parts.0 parts.1 number (denote tables input) fit)
  level_fits (Op-F.GroupSets input groups sets measures) number parts kinded fit =
      by_level (Op-F.GroupSets input groups sets measures) _ number _ (rolls-GroupSets input groups sets measures) (direct-GroupSets tables input groups sets measures number)
      (grouping_sets_fit (columns_of input) groups sets measures parts.0 parts.3 parts.4 number (denote tables input) fit)
  level_fits (Op-F.Join left right kind on post) number parts kinded fit =
      by_level (Op-F.Join left right kind on post) _ number _ (rolls-Join left right kind on post) (direct-Join tables left right kind on post number)
      (filtered_all (Fits (direct_in (Op-F.Join left right kind on post))) number (maybe_condition post) (joined kind (join_of number (answer_of tables left).width (answer_of tables right).width on) (denote tables left) (denote tables right))
      (join_fits number left right kind on fit))
  level_fits (Op-F.Cross left right) number parts kinded fit =
      by_level (Op-F.Cross left right) _ number _ (rolls-Cross left right) (direct-Cross tables left right number)
      (crossed_fits (columns_of left) (columns_of right) number (answer_of tables left).width (answer_of tables right).width (denote tables left) (denote tables right) (width_is tables left) (width_is tables right) fit.0 fit.1)
  level_fits (Op-F.Set inputs op) number parts kinded fit =
      by_level (Op-F.Set inputs op) _ number _ (rolls-Set inputs op) (direct-Set tables inputs op number)
      (set_fits op (map columns_of inputs) (map (denote tables) inputs) parts (inputs_fit inputs fit))

  abbrev Nothing : Op-F Op Rel → Type 0
  Nothing _ = Unit {0}

  abbrev TypedOp : Op → Type 0
  TypedOp op = every-Op Nothing IsRelation op

  abbrev KindedOp : Op → Type 0
  KindedOp op = every-Op Nothing (IsKindedRel tables) op

  abbrev OpClaim : Op → Type 0
  OpClaim op = TypedOp op → KindedOp op → Inputs Fit (out-Op op)

  abbrev RelClaim : Rel → Type 0
  RelClaim rel = AreTyped rel → AreWellKinded tables rel → Fit rel

  -- a claim about the relations that are well typed, over tables that are well kinded
  abbrev Known : Rel → Type 0
  Known rel = AreWellKinded tables rel → Fit rel

  level_of : (rel : Rel) → Rows (Fits (direct_in (out-Op (out-Rel rel).op))) (direct tables (out-Rel rel).op (out-Rel rel).number) → IsRelation (out-Rel rel) → Fit rel
  level_of rel fits is =
      let level = out-Rel rel in
      subst (Rows (Fits (columns_of rel))) (sym (denotes tables rel))
      (weakened (Fits (columns_at (direct_in (out-Op level.op)) level.emit)) (Fits (columns_of rel)) (emitted level.emit (direct tables level.op level.number)).rows
      (emitted_fits (direct_in (out-Op level.op)) level.emit (direct tables level.op level.number) is.1.places fits)
      (λ row. as_given (columns_at (direct_in (out-Op level.op)) level.emit) (columns_of rel) row is.1.as_implied))

  -- one relation, by what is known of its inputs
  relation_fits : (rel : Rel) → IsRelation (out-Rel rel) → IsKindedRel tables (out-Rel rel) → Inputs Fit (out-Op (out-Rel rel).op) → Fit rel
  relation_fits rel is kinded inputs =
      let level = out-Rel rel in
      level_of rel
      (subst (λ (op : Op). Rows (Fits (direct_in (out-Op level.op))) (direct tables op level.number)) (roll-out-Op level.op) (level_fits (out-Op level.op) level.number is.0 kinded inputs)) is

  op_fits : (x : Op-F Op Rel) (y : Op-F (With OpClaim) (With RelClaim)) → map-Op (With OpClaim) (With RelClaim) Op Rel (λ e. e.0) (λ e. e.0) y ≡ x → OpClaim (roll-Op x)
  op_fits x y is typed kinded =
      let level = out-Op (roll-Op x) in
      let held = every_held-Op Nothing IsRelation (roll-Op x) typed in
      let parts = subst (Inputs AreTyped) held.1 (held_inputs TypedOp AreTyped held.0) in
      let read = every_held-Op Nothing (IsKindedRel tables) (roll-Op x) kinded in
      let kinds = subst (Inputs (AreWellKinded tables)) read.1 (held_inputs KindedOp (AreWellKinded tables) read.0) in
      let claims = subst (Inputs RelClaim) (is ∙ sym (out-roll-Op x)) (held_inputs OpClaim RelClaim y) in
      both_inputs Known (AreWellKinded tables) Fit level (λ one claim known. claim known) (both_inputs RelClaim AreTyped Known level (λ one claim known. claim known) claims parts) kinds

  rel_fits : (x : Rel-F Op Rel) (y : Rel-F (With OpClaim) (With RelClaim)) → map-Rel (With OpClaim) (With RelClaim) Op Rel (λ e. e.0) (λ e. e.0) y ≡ x → RelClaim (roll-Rel x)
  rel_fits x y is typed kinded =
      let rel = roll-Rel x in
      let level = out-Rel rel in
      let held = every_held-Rel Nothing IsRelation rel typed in
      let part : TypedOp level.op = subst (λ (l : Rel-F Op Rel). TypedOp l.op) held.1 held.0.op.1 in
      let read = every_held-Rel Nothing (IsKindedRel tables) rel kinded in
      let kinds : KindedOp level.op = subst (λ (l : Rel-F Op Rel). KindedOp l.op) read.1 read.0.op.1 in
      let claim : OpClaim level.op = subst (λ (l : Rel-F Op Rel). OpClaim l.op) (is ∙ sym (out-roll-Rel x)) y.op.1 in
      relation_fits rel (every_here-Rel Nothing IsRelation rel typed) (every_here-Rel Nothing (IsKindedRel tables) rel kinded) (claim part kinds)

  -- the rows of a well-typed relation, over tables that are well kinded
  pub law_of_relations : (rel : Rel) → AreTyped rel → AreWellKinded tables rel → AllByRecursion (Fits (columns_of rel)) (denote tables rel).rows
  law_of_relations = ind-Rel OpClaim RelClaim op_fits rel_fits
