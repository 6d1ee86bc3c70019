-- Relations and what they do, one level at a time.
use Rattle.std.proofs.Common.{◌≡◌, ◌∙◌, ℕ, List, [], ◌∷◌, ◌++◌, Option, map, rules, refl, sym, ap, subst}
use Rattle.std.specs.List.{flat_map}
use Rattle.sub_types.specs.declared.kind.Ty.{Ty}
use Rattle.plan_typed.specs.declared.expr.Expr.{Expr}
use Rattle.plan_typed.specs.declared.rel.JoinKind.{JoinKind}
use Rattle.plan_typed.specs.declared.rel.SetOp.{SetOp}
use Rattle.plan_typed.specs.declared.rel.SetMeasure.{SetMeasure}
use Rattle.plan_typed.specs.declared.rel.SortKey.{SortKey}
use Rattle.plan_typed.specs.declared.rel.Source.{Source}
use Rattle.plan_typed.specs.declared.rel.TypedMeasure.{TypedMeasure}
use Rattle.plan_typed.specs.declared.rel.Op.{Op, out-Op, roll-Op, out-roll-Op, map-Op, every-Op, the_lemmas}
use Rattle.plan_typed.specs.declared.rel.Op.TheFolds.{every_here-Rel, every_held-Op, every_held-Rel}
use Rattle.plan_typed.specs.declared.rel.Op.TheOpen.{Op-F}
use Rattle.plan_typed.specs.declared.rel.Op.TheVariants as ops
use Rattle.plan_typed.specs.declared.rel.Rel.{Rel, Rel-F, out-Rel, every-Rel}
use Rattle.well_typed.proofs.ValidKinds.{With, all_held}
use Rattle.cut_laws.specs.Reads.{reads_of, reads_of_op, Inputs}

-- what an operation is rolled from
pub opened : (level : Op-F Op Rel) (op : Op) → roll-Op level ≡ op → out-Op op ≡ level
opened level op rolls = sym (sym (out-roll-Op level) ∙ ap out-Op rolls)

pub held_inputs : (O : Op → Type 0) (P : Rel → Type 0) (z : Op-F (With O) (With P)) → Inputs P (map-Op (With O) (With P) Op Rel (λ e. e.0) (λ e. e.0) z)
held_inputs O P (Op-F.Read source names types filter mask) = tt
held_inputs O P (Op-F.Filter input condition) = input.1
held_inputs O P (Op-F.Project input exprs) = input.1
held_inputs O P (Op-F.Fetch input offset count) = input.1
held_inputs O P (Op-F.Sort input keys) = input.1
held_inputs O P (Op-F.Aggregate input groups measures) = input.1
held_inputs O P (Op-F.GroupSets input groups sets measures) = input.1
held_inputs O P (Op-F.Join left right kind on post) = (left.1, right.1)
held_inputs O P (Op-F.Cross left right) = (left.1, right.1)
held_inputs O P (Op-F.Set inputs op) = all_held P inputs

abbrev Nothing : Op-F Op Rel → Type 0
Nothing _ = Unit {0}

-- what holds of every relation holds of the inputs of one
pub held_below : (P : Rel-F Op Rel → Type 0) (rel : Rel) → every-Rel Nothing P rel → Inputs (λ (input : Rel). every-Rel Nothing P input) (out-Op (out-Rel rel).op)
held_below P rel all =
    let held = every_held-Rel Nothing P rel all in
    let op : every-Op Nothing P (out-Rel rel).op = subst (λ (level : Rel-F Op Rel). every-Op Nothing P level.op) held.1 held.0.op.1 in
    let below = every_held-Op Nothing P (out-Rel rel).op op in
    subst (Inputs (λ (input : Rel). every-Rel Nothing P input)) below.1 (held_inputs (λ (one : Op). every-Op Nothing P one) (λ (input : Rel). every-Rel Nothing P input) below.0)

-- and of the relation itself
pub held_here : (P : Rel-F Op Rel → Type 0) (rel : Rel) → every-Rel Nothing P rel → P (out-Rel rel)
held_here P rel all = every_here-Rel Nothing P rel all

-- the read relations of a relation, by what it does
pub of_rel : (rel : Rel) → reads_of rel ≡ reads_of_op (out-Rel rel).op (out-Rel rel).number
unfolding reads_of reads_of_op
of_rel rel = search (rules, the_lemmas)

pub of_Read : (source : Source) (names : List (List ℕ)) (types : List Ty) (filter : Option Expr) (mask : List ℕ) (number : ℕ) → reads_of_op (ops.Read source names types filter mask) number ≡ number ∷ []
unfolding reads_of reads_of_op
of_Read source names types filter mask number = search (rules, the_lemmas)

pub of_Filter : (input : Rel) (condition : Expr) (number : ℕ) → reads_of_op (ops.Filter input condition) number ≡ reads_of input
unfolding reads_of reads_of_op
of_Filter input condition number = search (rules, the_lemmas)

pub of_Project : (input : Rel) (exprs : List Expr) (number : ℕ) → reads_of_op (ops.Project input exprs) number ≡ reads_of input
unfolding reads_of reads_of_op
of_Project input exprs number = search (rules, the_lemmas)

pub of_Fetch : (input : Rel) (offset : ℕ) (count : Option ℕ) (number : ℕ) → reads_of_op (ops.Fetch input offset count) number ≡ reads_of input
unfolding reads_of reads_of_op
of_Fetch input offset count number = search (rules, the_lemmas)

pub of_Sort : (input : Rel) (keys : List SortKey) (number : ℕ) → reads_of_op (ops.Sort input keys) number ≡ reads_of input
unfolding reads_of reads_of_op
of_Sort input keys number = search (rules, the_lemmas)

pub of_Aggregate : (input : Rel) (groups : List Expr) (measures : List TypedMeasure) (number : ℕ) → reads_of_op (ops.Aggregate input groups measures) number ≡ reads_of input
unfolding reads_of reads_of_op
of_Aggregate input groups measures number = search (rules, the_lemmas)

pub of_GroupSets : (input : Rel) (groups : List Expr) (sets : List (List ℕ)) (measures : List SetMeasure) (number : ℕ) → reads_of_op (ops.GroupSets input groups sets measures) number ≡ reads_of input
unfolding reads_of reads_of_op
of_GroupSets input groups sets measures number = search (rules, the_lemmas)

pub of_Join : (left right : Rel) (kind : JoinKind) (on : Expr) (post : Option Expr) (number : ℕ) → reads_of_op (ops.Join left right kind on post) number ≡ reads_of right ++ reads_of left
unfolding reads_of reads_of_op
of_Join left right kind on post number = search (rules, the_lemmas)

pub of_Cross : (left right : Rel) (number : ℕ) → reads_of_op (ops.Cross left right) number ≡ reads_of right ++ reads_of left
unfolding reads_of reads_of_op
of_Cross left right number = search (rules, the_lemmas)

flat : (inputs : List Rel) → flat_map (λ (input : List ℕ). input) (map reads_of inputs) ≡ flat_map reads_of inputs
flat [] = refl
flat (input ∷ inputs) = ap (λ rest. reads_of input ++ rest) (flat inputs)

of_set : (inputs : List Rel) (op : SetOp) (number : ℕ) → reads_of_op (ops.Set inputs op) number ≡ flat_map (λ (input : List ℕ). input) (map reads_of inputs)
unfolding reads_of reads_of_op
of_set inputs op number = search (rules, the_lemmas)

pub of_Set : (inputs : List Rel) (op : SetOp) (number : ℕ) → reads_of_op (ops.Set inputs op) number ≡ flat_map reads_of inputs
of_Set inputs op number = of_set inputs op number ∙ flat inputs
