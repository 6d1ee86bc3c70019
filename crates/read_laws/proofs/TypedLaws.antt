-- The read relations of a well-typed relation are of valid kinds, and read what their types say.
use Rattle.std.proofs.Common.{◌≡◌, ◌∙◌, ℕ, List, [], ◌∷◌, ◌++◌, map, sym, ap, subst}
use Rattle.std.specs.List.{AllByRecursion, flat_map}
use Rattle.plan_typed.specs.declared.rel.Op.{Op, out-Op, roll-Op, out-roll-Op, map-Op, every-Op, fold-roll-Op}
use Rattle.plan_typed.specs.declared.rel.Op.TheFolds.{ind-Rel, every_here-Rel, every_held-Op, every_held-Rel}
use Rattle.plan_typed.specs.declared.rel.Op.TheOpen.{Op-F}
use Rattle.plan_typed.specs.declared.rel.Rel.{Rel, Rel-F, out-Rel, roll-Rel, out-roll-Rel, roll-out-Rel, fold-roll-Rel}
use Rattle.plan_typed.specs.declared.rel.Op.{roll-out-Op}
use Rattle.well_typed.specs.WellTyped.{IsRelation, AreTyped, HasParts}
use Rattle.denote_typed.proofs.Law.{Inputs, held_inputs, both_inputs}
use Rattle.cut_laws.specs.Found.{ReadRel, op_read_rels, rel_read_rels, read_rels, read_rels_of_op}
use Rattle.read_laws.specs.Typed.{IsTypedRead}

abbrev HasReads : Rel → Type 0
HasReads rel = AllByRecursion IsTypedRead (read_rels rel)

-- one level of the read relations
abbrev level_reads : Op-F Op Rel → ℕ → List ReadRel
level_reads level number = op_read_rels (map-Op Op Rel (ℕ → List ReadRel) (List ReadRel) read_rels_of_op read_rels level) number

of_level : (level : Op-F Op Rel) (number : ℕ) → read_rels_of_op (roll-Op level) number ≡ level_reads level number
unfolding read_rels read_rels_of_op
of_level level number = ap (λ (reads : ℕ → List ReadRel). reads number) (fold-roll-Op (ℕ → List ReadRel) (List ReadRel) op_read_rels rel_read_rels level)

of_rolled : (level : Rel-F Op Rel) → read_rels (roll-Rel level) ≡ read_rels_of_op level.op level.number
unfolding read_rels read_rels_of_op
of_rolled level = fold-roll-Rel (ℕ → List ReadRel) (List ReadRel) op_read_rels rel_read_rels level

append_all : (xs ys : List ReadRel) → AllByRecursion IsTypedRead xs → AllByRecursion IsTypedRead ys → AllByRecursion IsTypedRead (xs ++ ys)
append_all [] ys all others = others
append_all (x ∷ xs) ys all others = (all.0, append_all xs ys all.1 others)

flat_all : (inputs : List Rel) → AllByRecursion HasReads inputs → AllByRecursion IsTypedRead (flat_map (λ (input : List ReadRel). input) (map read_rels inputs))
flat_all [] all = tt
flat_all (input ∷ inputs) all = append_all (read_rels input) (flat_map (λ (one : List ReadRel). one) (map read_rels inputs)) all.0 (flat_all inputs all.1)

level_all : (level : Op-F Op Rel) (number : ℕ) → HasParts level → Inputs HasReads level → AllByRecursion IsTypedRead (level_reads level number)
level_all (Op-F.Read source names types filter mask) number parts inputs = (record { kinds = parts.1; source = parts.2 }, tt)
level_all (Op-F.Filter input condition) number parts inputs = inputs
level_all (Op-F.Project input exprs) number parts inputs = inputs
level_all (Op-F.Fetch input offset count) number parts inputs = inputs
level_all (Op-F.Sort input keys) number parts inputs = inputs
level_all (Op-F.Aggregate input groups measures) number parts inputs = inputs
level_all (Op-F.GroupSets input groups sets measures) number parts inputs = inputs
level_all (Op-F.Join left right kind on post) number parts inputs = append_all (read_rels right) (read_rels left) inputs.1 inputs.0
level_all (Op-F.Cross left right) number parts inputs = append_all (read_rels right) (read_rels left) inputs.1 inputs.0
level_all (Op-F.Set inputs op) number parts all = flat_all inputs all

op_all : (op : Op) (number : ℕ) → HasParts (out-Op op) → Inputs HasReads (out-Op op) → AllByRecursion IsTypedRead (read_rels_of_op op number)
op_all op number parts inputs =
    subst (λ (one : Op). AllByRecursion IsTypedRead (read_rels_of_op one number)) (roll-out-Op op)
    (subst (AllByRecursion IsTypedRead) (sym (of_level (out-Op op) number)) (level_all (out-Op op) number parts inputs))

abbrev Nothing : Op-F Op Rel → Type 0
Nothing _ = Unit {0}

abbrev TypedOp : Op → Type 0
TypedOp op = every-Op Nothing IsRelation op

abbrev OpClaim : Op → Type 0
OpClaim op = TypedOp op → Inputs HasReads (out-Op op)

abbrev RelClaim : Rel → Type 0
RelClaim rel = AreTyped rel → HasReads rel

pub typed_reads : (rel : Rel) → AreTyped rel → AllByRecursion IsTypedRead (read_rels rel)
typed_reads = ind-Rel OpClaim RelClaim
    (λ x y is typed.
    let level = out-Op (roll-Op x) in
    let held = every_held-Op Nothing IsRelation (roll-Op x) typed in
    let parts = subst (Inputs AreTyped) held.1 (held_inputs TypedOp AreTyped held.0) in
    let claims = subst (Inputs RelClaim) (is ∙ sym (out-roll-Op x)) (held_inputs OpClaim RelClaim y) in
    both_inputs RelClaim AreTyped HasReads level (λ one claim known. claim known) claims parts)
    (λ x y is typed.
    let level = out-Rel (roll-Rel x) in
    let held = every_held-Rel Nothing IsRelation (roll-Rel x) typed in
    let part : TypedOp level.op = subst (λ (l : Rel-F Op Rel). TypedOp l.op) held.1 held.0.op.1 in
    let claim : OpClaim level.op = subst (λ (l : Rel-F Op Rel). OpClaim l.op) (is ∙ sym (out-roll-Rel x)) y.op.1 in
    let here = every_here-Rel Nothing IsRelation (roll-Rel x) typed in
    subst (λ (rel : Rel). AllByRecursion IsTypedRead (read_rels rel)) (roll-out-Rel (roll-Rel x))
    (subst (AllByRecursion IsTypedRead) (sym (of_rolled level)) (op_all level.op level.number here.0 (claim part))))
