-- What holds of each relation, by what holds of its read relations, and the other way round.
use Rattle.std.proofs.Common.{◌≡◌, List, [], ◌∷◌, map, refl, ap, subst}
use Rattle.std.specs.List.{AllByRecursion}
use Rattle.plan_typed.specs.declared.rel.Op.{Op, out-Op, roll-Op, roll-out-Op, every_made-Op}
use Rattle.plan_typed.specs.declared.rel.Op.TheFolds.{every_here-Rel}
use Rattle.plan_typed.specs.declared.rel.Op.TheOpen.{Op-F}
use Rattle.plan_typed.specs.declared.rel.Rel.{Rel, Rel-F, out-Rel, roll-out-Rel}
use Rattle.well_typed.proofs.ValidKinds.{With}
use Rattle.denote_typed.proofs.Law.{Inputs, both_inputs}
use Rattle.denote_typed.proofs.FillRelLaws.{Every, EveryOp, rolled_rel, inputs_of, op_of}
use Rattle.plan_reads.specs.declared.reads.PlanRead.{PlanRead}
use Rattle.plan_laws.proofs.Levels.{by_inputs, AllReads, OwnRead, own_and_inputs, from_own}

abbrev Nothing : Op-F Op Rel → Type 0
Nothing _ = Unit {0}

paired : {A : Type 0} (P : A → Type 0) (xs : List A) → AllByRecursion P xs → (ys : List (With P)) × (map (λ e. e.0) ys ≡ xs)
paired P [] all = ([], refl)
paired P (x ∷ xs) all =
    let rest = paired P xs all.1 in
    ((x, all.0) ∷ rest.0, ap (λ l. x ∷ l) rest.1)

module _ (P : PlanRead → Type 0) (Q : Rel-F Op Rel → Type 0) where
  abbrev All : Rel → Type 0
  All rel = Every Q rel

  -- what holds of each relation of its inputs holds of each of an operation
  rolled_op : (level : Op-F Op Rel) → Inputs All level → EveryOp Q (roll-Op level)
  rolled_op (Op-F.Read source names types filter mask) h = every_made-Op Nothing Q (Op-F.Read source names types filter mask) (Op-F.Read source names types filter mask) refl tt
  rolled_op (Op-F.Filter input condition) h = every_made-Op Nothing Q (Op-F.Filter input condition) (Op-F.Filter (input, h) condition) refl tt
  rolled_op (Op-F.Project input exprs) h = every_made-Op Nothing Q (Op-F.Project input exprs) (Op-F.Project (input, h) exprs) refl tt
  rolled_op (Op-F.Fetch input offset count) h = every_made-Op Nothing Q (Op-F.Fetch input offset count) (Op-F.Fetch (input, h) offset count) refl tt
  rolled_op (Op-F.Sort input keys) h = every_made-Op Nothing Q (Op-F.Sort input keys) (Op-F.Sort (input, h) keys) refl tt
  rolled_op (Op-F.Aggregate input groups measures) h = every_made-Op Nothing Q (Op-F.Aggregate input groups measures) (Op-F.Aggregate (input, h) groups measures) refl tt
  rolled_op (Op-F.GroupSets input groups sets measures) h = every_made-Op Nothing Q (Op-F.GroupSets input groups sets measures) (Op-F.GroupSets (input, h) groups sets measures) refl tt
  rolled_op (Op-F.Join left right kind on post) h = every_made-Op Nothing Q (Op-F.Join left right kind on post) (Op-F.Join (left, h.0) (right, h.1) kind on post) refl tt
  rolled_op (Op-F.Cross left right) h = every_made-Op Nothing Q (Op-F.Cross left right) (Op-F.Cross (left, h.0) (right, h.1)) refl tt
  rolled_op (Op-F.Set inputs op) h =
      let held = paired All inputs h in
      every_made-Op Nothing Q (Op-F.Set inputs op) (Op-F.Set held.0 op) (ap (λ l. Op-F.Set l op) held.1) tt

  -- what a relation's own read makes of it holds of each relation
  module _ (k : (rel : Rel-F Op Rel) → OwnRead P (out-Op rel.op) rel.number → Q rel) where
    abbrev FromReads : Rel → Type 0
    FromReads rel = AllReads P rel → All rel

    relation_from : (rel : Rel) → Inputs FromReads (out-Op (out-Rel rel).op) → FromReads rel
    relation_from rel claims all =
        let level = out-Rel rel in
        let both = own_and_inputs P rel all in
        let inside = both_inputs FromReads (AllReads P) All (out-Op level.op) (λ one claim known. claim known) claims both.1 in
        subst All (roll-out-Rel rel)
        (rolled_rel Q level.number level.op level.emit level.columns (subst (EveryOp Q) (roll-out-Op level.op) (rolled_op (out-Op level.op) inside)) (k level both.0))

    pub every_from_reads : (rel : Rel) → AllReads P rel → Every Q rel
    every_from_reads = by_inputs FromReads relation_from

  -- what each relation makes of its own read holds of each read
  module _ (k : (rel : Rel-F Op Rel) → Q rel → OwnRead P (out-Op rel.op) rel.number) where
    abbrev FromEvery : Rel → Type 0
    FromEvery rel = All rel → AllReads P rel

    reads_from : (rel : Rel) → Inputs FromEvery (out-Op (out-Rel rel).op) → FromEvery rel
    reads_from rel claims every =
        let level = out-Rel rel in
        from_own P rel (k level (every_here-Rel Nothing Q rel every))
        (both_inputs FromEvery All (AllReads P) (out-Op level.op) (λ one claim known. claim known) claims (inputs_of Q level.op (op_of Q rel every)))

    pub reads_from_every : (rel : Rel) → Every Q rel → AllReads P rel
    reads_from_every = by_inputs FromEvery reads_from
