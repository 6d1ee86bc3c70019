-- Relations with the values of subqueries put in are well typed where these fit their nodes.
use Rattle.std.proofs.Common.{◌≡◌, ◌∙◌, ℕ, List, [], ◌∷◌, Option, map, refl, sym, ap, subst}
use Rattle.std.specs.List.{AllByRecursion}
use Rattle.sub_types.specs.declared.kind.Ty.{Ty}
use Rattle.plan_typed.specs.declared.rel.Op.{Op, out-Op, roll-Op, out-roll-Op, roll-out-Op, map-Op, every-Op, every_made-Op, fold-Op, fold-roll-Op}
use Rattle.plan_typed.specs.declared.rel.Op.TheFolds.{ind-Rel, every_here-Rel, every_held-Op, every_held-Rel}
use Rattle.plan_typed.specs.declared.rel.Op.TheOpen.{Op-F}
use Rattle.plan_typed.specs.declared.rel.Rel.{Rel, Rel-F, out-Rel, roll-Rel, out-roll-Rel, roll-out-Rel, map-Rel, every-Rel, every_made-Rel, fold-roll-Rel}
use Rattle.plan_typed.specs.Types.{columns_of}
use Rattle.well_typed.proofs.ValidKinds.{With}
use Rattle.well_typed.specs.WellTyped.{IsRelation, AreTyped, Emits, HasParts, direct_in}
use Rattle.plan_denote.specs.Denote.{Tables}
use Rattle.plan_denote.specs.Holes.{Worth, Known, worth_at, filled_op, filled_rel, filled}
use Rattle.denote_typed.specs.Holes.{slots_of_op, AreTaken}
use Rattle.denote_typed.specs.Kinded.{IsKindedRead, IsKindedRel, AreWellKinded}
use Rattle.denote_typed.proofs.FillOpLaws.{new_op, Same, AreSame, parts_filled, direct_filled, read_filled}
use Rattle.denote_typed.proofs.Law.{Inputs, held_inputs, both_inputs}

abbrev Nothing : Op-F Op Rel → Type 0
Nothing _ = Unit {0}

paired : {A : Type 0} (P : A → Type 0) (xs : List A) → AllByRecursion P xs → (ys : List (With P)) × (map (λ e. e.0) ys ≡ xs)
paired P [] all = ([], refl)
paired P (x ∷ xs) all =
    let rest = paired P xs all.1 in
    ((x, all.0) ∷ rest.0, ap (λ l. x ∷ l) rest.1)

module _ (Q : Rel-F Op Rel → Type 0) where
  abbrev pub Every : Rel → Type 0
  Every rel = every-Rel Nothing Q rel

  abbrev pub EveryOp : Op → Type 0
  EveryOp op = every-Op Nothing Q op

  -- what holds of each relation of its inputs holds of each of an operation
  rolled_op : (level : Op-F Op Rel) → Inputs Every level → EveryOp (roll-Op level)
  rolled_op (Op-F.Read source names types filter mask) h = every_made-Op Nothing Q (Op-F.Read source names types filter mask) (Op-F.Read source names types filter mask) refl tt
  rolled_op (Op-F.Filter input condition) h = every_made-Op Nothing Q (Op-F.Filter input condition) (Op-F.Filter (input, h) condition) refl tt
  rolled_op (Op-F.Project input exprs) h = every_made-Op Nothing Q (Op-F.Project input exprs) (Op-F.Project (input, h) exprs) refl tt
  rolled_op (Op-F.Fetch input offset count) h = every_made-Op Nothing Q (Op-F.Fetch input offset count) (Op-F.Fetch (input, h) offset count) refl tt
  rolled_op (Op-F.Sort input keys) h = every_made-Op Nothing Q (Op-F.Sort input keys) (Op-F.Sort (input, h) keys) refl tt
  rolled_op (Op-F.Aggregate input groups measures) h = every_made-Op Nothing Q (Op-F.Aggregate input groups measures) (Op-F.Aggregate (input, h) groups measures) refl tt
  rolled_op (Op-F.GroupSets input groups sets measures) h = every_made-Op Nothing Q (Op-F.GroupSets input groups sets measures) (Op-F.GroupSets (input, h) groups sets measures) refl tt
  rolled_op (Op-F.Join left right kind on post) h = every_made-Op Nothing Q (Op-F.Join left right kind on post) (Op-F.Join (left, h.0) (right, h.1) kind on post) refl tt
  rolled_op (Op-F.Cross left right) h = every_made-Op Nothing Q (Op-F.Cross left right) (Op-F.Cross (left, h.0) (right, h.1)) refl tt
  rolled_op (Op-F.Set inputs op) h =
      let held = paired Every inputs h in
      every_made-Op Nothing Q (Op-F.Set inputs op) (Op-F.Set held.0 op) (ap (λ l. Op-F.Set l op) held.1) tt

  -- a relation over such inputs
  pub rolled_rel : (number : ℕ) (op : Op) (emit : List ℕ) (columns : List Ty) → EveryOp op → Q (record { number = number; op = op; emit = emit; columns = columns })
      → Every (roll-Rel (record { number = number; op = op; emit = emit; columns = columns }))
  rolled_rel number op emit columns inputs here =
      every_made-Rel Nothing Q (record { number = number; op = op; emit = emit; columns = columns }) (record { number = number; op = (op, inputs); emit = emit; columns = columns }) refl here

  -- what holds of the inputs
  pub inputs_of : (op : Op) → EveryOp op → Inputs Every (out-Op op)
  inputs_of op every = let held = every_held-Op Nothing Q op every in subst (Inputs Every) held.1 (held_inputs EveryOp Every held.0)

  pub op_of : (rel : Rel) → Every rel → EveryOp (out-Rel rel).op
  op_of rel every = let held = every_held-Rel Nothing Q rel every in subst (λ (l : Rel-F Op Rel). EveryOp l.op) held.1 held.0.op.1

-- of each relation two things hold, and so a third
module _ (P Q R : Rel-F Op Rel → Type 0) (k : (rel : Rel-F Op Rel) → P rel → Q rel → R rel) where
  abbrev OpBoth : Op → Type 0
  OpBoth op = EveryOp P op → EveryOp Q op → EveryOp R op

  abbrev Both : Rel → Type 0
  Both rel = Every P rel → Every Q rel → Every R rel

  abbrev Half : Rel → Type 0
  Half rel = Every Q rel → Every R rel

  both_op : (x : Op-F Op Rel) (y : Op-F (With OpBoth) (With Both)) → map-Op (With OpBoth) (With Both) Op Rel (λ e. e.0) (λ e. e.0) y ≡ x → OpBoth (roll-Op x)
  both_op x y is first second =
      let level = out-Op (roll-Op x) in
      let claims = subst (Inputs Both) (is ∙ sym (out-roll-Op x)) (held_inputs OpBoth Both y) in
      let halves = both_inputs Both (Every P) Half level (λ one claim known. claim known) claims (inputs_of P (roll-Op x) first) in
      let inside = both_inputs Half (Every Q) (Every R) level (λ one claim known. claim known) halves (inputs_of Q (roll-Op x) second) in
      subst (EveryOp R) (roll-out-Op (roll-Op x)) (rolled_op R level inside)

  both_rel : (x : Rel-F Op Rel) (y : Rel-F (With OpBoth) (With Both)) → map-Rel (With OpBoth) (With Both) Op Rel (λ e. e.0) (λ e. e.0) y ≡ x → Both (roll-Rel x)
  both_rel x y is first second =
      let rel = roll-Rel x in
      let level = out-Rel rel in
      let claim : OpBoth level.op = subst (λ (l : Rel-F Op Rel). OpBoth l.op) (is ∙ sym (out-roll-Rel x)) y.op.1 in
      subst (Every R) (roll-out-Rel rel)
      (rolled_rel R level.number level.op level.emit level.columns (claim (op_of P rel first) (op_of Q rel second)) (k level (every_here-Rel Nothing P rel first) (every_here-Rel Nothing Q rel second)))

  pub every_both : (rel : Rel) → Every P rel → Every Q rel → Every R rel
  every_both = ind-Rel OpBoth Both both_op both_rel

-- what goes to the nodes of one relation, and of each, may do so
abbrev pub IsTakenBy : Known → Rel-F Op Rel → Type 0
IsTakenBy known rel = AreTaken (worth_at known rel.number) 0 (slots_of_op (out-Op rel.op))

module _ (known : Known) where
  abbrev fill_op : Op → (ℕ → Option Worth) → Op
  fill_op op = fold-Op ((ℕ → Option Worth) → Op) Rel filled_op (filled_rel known) op

  op_levels : (k : ℕ → Option Worth) (level : Op-F Op Rel) → filled_op (map-Op Op Rel ((ℕ → Option Worth) → Op) Rel fill_op (filled known) level) k ≡ roll-Op (new_op k known level)
  unfolding filled
  op_levels k (Op-F.Read source names types filter mask) = refl
  op_levels k (Op-F.Filter input condition) = refl
  op_levels k (Op-F.Project input exprs) = refl
  op_levels k (Op-F.Fetch input offset count) = refl
  op_levels k (Op-F.Sort input keys) = refl
  op_levels k (Op-F.Aggregate input groups measures) = refl
  op_levels k (Op-F.GroupSets input groups sets measures) = refl
  op_levels k (Op-F.Join left right kind on post) = refl
  op_levels k (Op-F.Cross left right) = refl
  op_levels k (Op-F.Set inputs op) = refl

  filled_op_is : (op : Op) (k : ℕ → Option Worth) → fill_op op k ≡ roll-Op (new_op k known (out-Op op))
  unfolding filled
  filled_op_is op k =
      ap (λ one. fill_op one k) (sym (roll-out-Op op)) ∙ ap (λ (one : (ℕ → Option Worth) → Op). one k) (fold-roll-Op ((ℕ → Option Worth) → Op) Rel filled_op (filled_rel known) (out-Op op)) ∙ op_levels k (out-Op op)

  -- a relation with the values put in, by one level
  abbrev new_rel : Rel-F Op Rel → Rel-F Op Rel
  new_rel rel = record { number = rel.number; op = roll-Op (new_op (worth_at known rel.number) known (out-Op rel.op)); emit = rel.emit; columns = rel.columns }

  filled_is : (rel : Rel) → filled known rel ≡ roll-Rel (new_rel (out-Rel rel))
  unfolding filled
  filled_is rel =
      let level = out-Rel rel in
      ap (filled known) (sym (roll-out-Rel rel)) ∙ fold-roll-Rel ((ℕ → Option Worth) → Op) Rel filled_op (filled_rel known) level
      ∙ ap (λ (op : Op). roll-Rel (record { number = level.number; op = op; emit = level.emit; columns = level.columns })) (filled_op_is level.op (worth_at known level.number))

  pub same_columns : (rel : Rel) → columns_of (filled known rel) ≡ columns_of rel
  same_columns rel = ap columns_of (filled_is rel) ∙ ap (λ (level : Rel-F Op Rel). level.columns) (out-roll-Rel (new_rel (out-Rel rel)))

  all_same : (k : ℕ → Option Worth) (level : Op-F Op Rel) → AreSame k known level
  all_same k (Op-F.Read source names types filter mask) = tt
  all_same k (Op-F.Filter input condition) = same_columns input
  all_same k (Op-F.Project input exprs) = same_columns input
  all_same k (Op-F.Fetch input offset count) = same_columns input
  all_same k (Op-F.Sort input keys) = same_columns input
  all_same k (Op-F.Aggregate input groups measures) = same_columns input
  all_same k (Op-F.GroupSets input groups sets measures) = same_columns input
  all_same k (Op-F.Join left right kind on post) = (same_columns left, same_columns right)
  all_same k (Op-F.Cross left right) = (same_columns left, same_columns right)
  all_same k (Op-F.Set inputs op) = each inputs
    where
      each : (inputs : List Rel) → AllByRecursion (Same k known) inputs
      each [] = tt
      each (input ∷ inputs) = (same_columns input, each inputs)

  -- the inputs of what is made
  new_inputs : (P : Rel → Type 0) (k : ℕ → Option Worth) (level : Op-F Op Rel) → Inputs (λ rel. P (filled known rel)) level → Inputs P (new_op k known level)
  new_inputs P k (Op-F.Read source names types filter mask) h = tt
  new_inputs P k (Op-F.Filter input condition) h = h
  new_inputs P k (Op-F.Project input exprs) h = h
  new_inputs P k (Op-F.Fetch input offset count) h = h
  new_inputs P k (Op-F.Sort input keys) h = h
  new_inputs P k (Op-F.Aggregate input groups measures) h = h
  new_inputs P k (Op-F.GroupSets input groups sets measures) h = h
  new_inputs P k (Op-F.Join left right kind on post) h = h
  new_inputs P k (Op-F.Cross left right) h = h
  new_inputs P k (Op-F.Set inputs op) h = each inputs h
    where
      each : (inputs : List Rel) → AllByRecursion (λ rel. P (filled known rel)) inputs → AllByRecursion P (map (filled known) inputs)
      each [] h = tt
      each (input ∷ inputs) h = (h.0, each inputs h.1)

  -- one level stays well typed
  relation_filled : (rel : Rel-F Op Rel) → IsRelation rel → IsTakenBy known rel → IsRelation (new_rel rel)
  relation_filled rel is taken =
      let k = worth_at known rel.number in
      let level = out-Op rel.op in
      let opened : new_op k known level ≡ out-Op (roll-Op (new_op k known level)) = sym (out-roll-Op (new_op k known level)) in (
        subst HasParts opened (parts_filled k known level is.0 taken (all_same k level)),
        subst (λ (direct : List Ty). Emits direct rel.emit rel.columns) (direct_filled k known level is.0 (all_same k level) ∙ ap direct_in opened) is.1,
      )

  read_stays : (tables : Tables) (rel : Rel-F Op Rel) → IsKindedRel tables rel → IsKindedRel tables (new_rel rel)
  read_stays tables rel kinded =
      let k = worth_at known rel.number in
      let level = out-Op rel.op in
      subst (λ (one : Op-F Op Rel). IsKindedRead one (tables rel.number)) (sym (out-roll-Op (new_op k known level))) (read_filled k known level (tables rel.number) kinded)

  -- what holds of each relation once it is filled
  module _ (P Q : Rel-F Op Rel → Type 0) (k : (rel : Rel-F Op Rel) → P rel → Q (new_rel rel)) where
    abbrev IsDone : Rel → Type 0
    IsDone rel = Every Q (filled known rel)

    abbrev OpClaim : Op → Type 0
    OpClaim op = EveryOp P op → Inputs IsDone (out-Op op)

    abbrev RelClaim : Rel → Type 0
    RelClaim rel = Every P rel → IsDone rel

    op_done : (x : Op-F Op Rel) (y : Op-F (With OpClaim) (With RelClaim)) → map-Op (With OpClaim) (With RelClaim) Op Rel (λ e. e.0) (λ e. e.0) y ≡ x → OpClaim (roll-Op x)
    op_done x y is every =
        let level = out-Op (roll-Op x) in
        let claims = subst (Inputs RelClaim) (is ∙ sym (out-roll-Op x)) (held_inputs OpClaim RelClaim y) in
        both_inputs RelClaim (Every P) IsDone level (λ one claim known. claim known) claims (inputs_of P (roll-Op x) every)

    rel_done : (x : Rel-F Op Rel) (y : Rel-F (With OpClaim) (With RelClaim)) → map-Rel (With OpClaim) (With RelClaim) Op Rel (λ e. e.0) (λ e. e.0) y ≡ x → RelClaim (roll-Rel x)
    rel_done x y is every =
        let rel = roll-Rel x in
        let level = out-Rel rel in
        let claim : OpClaim level.op = subst (λ (l : Rel-F Op Rel). OpClaim l.op) (is ∙ sym (out-roll-Rel x)) y.op.1 in
        let new = new_op (worth_at known level.number) known (out-Op level.op) in
        subst (Every Q) (sym (filled_is rel))
        (rolled_rel Q level.number (roll-Op new) level.emit level.columns
        (rolled_op Q new (new_inputs (Every Q) (worth_at known level.number) (out-Op level.op) (claim (op_of P rel every)))) (k level (every_here-Rel Nothing P rel every)))

    every_filled : (rel : Rel) → Every P rel → IsDone rel
    every_filled = ind-Rel OpClaim RelClaim op_done rel_done

  -- a filled relation is well typed, over tables that are well kinded
  pub filled_typed : (rel : Rel) → AreTyped rel → Every (IsTakenBy known) rel → AreTyped (filled known rel)
  filled_typed rel typed taken =
      every_filled (λ one. IsRelation one × IsTakenBy known one) IsRelation (λ one both. relation_filled one both.0 both.1) rel
      (every_both IsRelation (IsTakenBy known) (λ one. IsRelation one × IsTakenBy known one) (λ one is taken. (is, taken)) rel typed taken)

  pub filled_kinded : (tables : Tables) (rel : Rel) → AreWellKinded tables rel → AreWellKinded tables (filled known rel)
  filled_kinded tables rel kinded = every_filled (IsKindedRel tables) (IsKindedRel tables) (read_stays tables) rel kinded
