-- What holds of a relation and of each of its inputs holds of each relation in it.
use Rattle.std.proofs.Common.{◌≡◌, List, [], ◌∷◌, map, refl, ap, subst}
use Rattle.std.specs.List.{AllByRecursion}
use Rattle.plan_typed.specs.declared.rel.Op.{Op, out-Op, roll-Op, roll-out-Op, every_made-Op}
use Rattle.plan_typed.specs.declared.rel.Op.TheOpen.{Op-F}
use Rattle.plan_typed.specs.declared.rel.Rel.{Rel, Rel-F, out-Rel, roll-out-Rel}
use Rattle.well_typed.proofs.ValidKinds.{With}
use Rattle.denote_typed.specs.Holes.{slots_of_op}
use Rattle.denote_typed.proofs.FillRelLaws.{Every, EveryOp, rolled_rel}
use Rattle.verdict_awaits.proofs.Parts.{Part}

-- the inputs of an operation, from left to right
abbrev pub inputs_in : Op-F Op Rel → List Rel
inputs_in (Op-F.Read source names types filter mask) = []
inputs_in (Op-F.Filter input condition) = input ∷ []
inputs_in (Op-F.Project input exprs) = input ∷ []
inputs_in (Op-F.Fetch input offset count) = input ∷ []
inputs_in (Op-F.Sort input keys) = input ∷ []
inputs_in (Op-F.Aggregate input groups measures) = input ∷ []
inputs_in (Op-F.GroupSets input groups sets measures) = input ∷ []
inputs_in (Op-F.Join left right kind on post) = left ∷ right ∷ []
inputs_in (Op-F.Cross left right) = left ∷ right ∷ []
inputs_in (Op-F.Set inputs op) = inputs

-- the nodes and the inputs of a whole relation
abbrev pub part_of_op : Op-F Op Rel → Part
part_of_op level = record { slots = slots_of_op level; rels = inputs_in level }

abbrev pub part_of : Rel → Part
part_of rel = part_of_op (out-Op (out-Rel rel).op)

paired : {A : Type 0} (P : A → Type 0) (xs : List A) → AllByRecursion P xs → (ys : List (With P)) × (map (λ e. e.0) ys ≡ xs)
paired P [] all = ([], refl)
paired P (x ∷ xs) all =
    let rest = paired P xs all.1 in
    ((x, all.0) ∷ rest.0, ap (λ l. x ∷ l) rest.1)

module _ (Q : Rel-F Op Rel → Type 0) where
  abbrev Nothing : Op-F Op Rel → Type 0
  Nothing _ = Unit {0}

  rolled_op : (level : Op-F Op Rel) → AllByRecursion (Every Q) (inputs_in level) → EveryOp Q (roll-Op level)
  rolled_op (Op-F.Read source names types filter mask) h = every_made-Op Nothing Q (Op-F.Read source names types filter mask) (Op-F.Read source names types filter mask) refl tt
  rolled_op (Op-F.Filter input condition) h = every_made-Op Nothing Q (Op-F.Filter input condition) (Op-F.Filter (input, h.0) condition) refl tt
  rolled_op (Op-F.Project input exprs) h = every_made-Op Nothing Q (Op-F.Project input exprs) (Op-F.Project (input, h.0) exprs) refl tt
  rolled_op (Op-F.Fetch input offset count) h = every_made-Op Nothing Q (Op-F.Fetch input offset count) (Op-F.Fetch (input, h.0) offset count) refl tt
  rolled_op (Op-F.Sort input keys) h = every_made-Op Nothing Q (Op-F.Sort input keys) (Op-F.Sort (input, h.0) keys) refl tt
  rolled_op (Op-F.Aggregate input groups measures) h = every_made-Op Nothing Q (Op-F.Aggregate input groups measures) (Op-F.Aggregate (input, h.0) groups measures) refl tt
  rolled_op (Op-F.GroupSets input groups sets measures) h = every_made-Op Nothing Q (Op-F.GroupSets input groups sets measures) (Op-F.GroupSets (input, h.0) groups sets measures) refl tt
  rolled_op (Op-F.Join left right kind on post) h = every_made-Op Nothing Q (Op-F.Join left right kind on post) (Op-F.Join (left, h.0) (right, h.1.0) kind on post) refl tt
  rolled_op (Op-F.Cross left right) h = every_made-Op Nothing Q (Op-F.Cross left right) (Op-F.Cross (left, h.0) (right, h.1.0)) refl tt
  rolled_op (Op-F.Set inputs op) h =
      let held = paired (Every Q) inputs h in
      every_made-Op Nothing Q (Op-F.Set inputs op) (Op-F.Set held.0 op) (ap (λ l. Op-F.Set l op) held.1) tt

  pub every_rel : (rel : Rel) → AllByRecursion (Every Q) (part_of rel).rels → Q (out-Rel rel) → Every Q rel
  every_rel rel inputs here =
      let level = out-Rel rel in
      subst (Every Q) (roll-out-Rel rel)
      (rolled_rel Q level.number level.op level.emit level.columns (subst (EveryOp Q) (roll-out-Op level.op) (rolled_op (out-Op level.op) inputs)) here)
