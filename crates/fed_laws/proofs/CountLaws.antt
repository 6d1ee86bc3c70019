-- No read relation's number stands twice where all relations have different ones.
use Rattle.std.proofs.Common.{◌≡◌, ℕ, ◌+◌, ◌≤◌, List, [], ◌∷◌, ◌++◌, Bool, true, cond, ◌==◌, map, refl, sym, ap, subst, arith}
use Rattle.std.proofs.lemmas.Bool.{eq-eqb}
use Rattle.std.proofs.lemmas.List.Sums.{sum_by-append}
use Rattle.std.specs.List.{AllByRecursion, concat, count_by, flat_map}
use Rattle.plan_typed.specs.declared.rel.Op.{Op, roll-Op, map-Op, fold-Op, fold-roll-Op}
use Rattle.plan_typed.specs.declared.rel.Op.TheFolds.{ind-Rel}
use Rattle.plan_typed.specs.declared.rel.Op.TheOpen.{Op-F}
use Rattle.plan_typed.specs.declared.rel.Rel.{Rel, Rel-F, roll-Rel, map-Rel, fold-roll-Rel}
use Rattle.plan_typed.specs.Numbers.{numbers_of, op_numbers}
use Rattle.well_typed.specs.WellTyped.{AllDiffer}
use Rattle.well_typed.proofs.ValidKinds.{With}
use Rattle.cut_laws.specs.Reads.{op_reads, rel_reads, reads_of, reads_of_op, Inputs}
use Rattle.cut_laws.proofs.LevelLaws.{held_inputs}

abbrev pub count : ℕ → List ℕ → ℕ
count number all = count_by (λ one. one == number) all

abbrev pub weight : Bool → ℕ
weight test = cond test 1 0

pub counted-append : (number : ℕ) (xs ys : List ℕ) → count number (xs ++ ys) ≡ count number xs + count number ys
counted-append number xs ys = sum_by-append (λ one. weight (one == number)) xs ys

pub counted-first : (first number : ℕ) (rest : List ℕ) → count number (first ∷ rest) ≡ weight (first == number) + count number rest
counted-first first number rest = omega (arith, counted-append number (first ∷ []) rest)

more_counted : (first number : ℕ) (rest : List ℕ) → count number rest ≤ count number (first ∷ rest)
more_counted first number rest = omega (arith, counted-first first number rest)

pub own_counted : (number : ℕ) (rest : List ℕ) → 1 ≤ count number (number ∷ rest)
own_counted number rest =
    let one : weight (number == number) ≡ weight true = ap weight (eq-eqb number number refl) in
    omega (arith, one, counted-first number number rest)

-- one level of the numbers of read relations, and of all relations
abbrev level_reads : Op-F Op Rel → ℕ → List ℕ
level_reads level number = op_reads (map-Op Op Rel (ℕ → List ℕ) (List ℕ) reads_of_op reads_of level) number

of_level : (level : Op-F Op Rel) (number : ℕ) → reads_of_op (roll-Op level) number ≡ level_reads level number
unfolding reads_of reads_of_op
of_level level number = ap (λ (reads : ℕ → List ℕ). reads number) (fold-roll-Op (ℕ → List ℕ) (List ℕ) op_reads rel_reads level)

of_rolled : (level : Rel-F Op Rel) → reads_of (roll-Rel level) ≡ reads_of_op level.op level.number
unfolding reads_of reads_of_op
of_rolled level = fold-roll-Rel (ℕ → List ℕ) (List ℕ) op_reads rel_reads level

abbrev numbers_of_op : Op → List ℕ
numbers_of_op = fold-Op (List ℕ) (List ℕ) op_numbers (λ rel. rel.number ∷ rel.op)

abbrev level_numbers : Op-F Op Rel → List ℕ
level_numbers level = op_numbers (map-Op Op Rel (List ℕ) (List ℕ) numbers_of_op numbers_of level)

-- no number stands oftener among the read relations than among all relations
abbrev IsFewer : Rel → Type 0
IsFewer rel = (number : ℕ) → count number (reads_of rel) ≤ count number (numbers_of rel)

abbrev OpIsFewer : Op → Type 0
OpIsFewer op = (own number : ℕ) → count number (reads_of_op op own) ≤ count number (own ∷ numbers_of_op op)

fewer_inputs : (inputs : List Rel) (number : ℕ) → AllByRecursion IsFewer inputs → count number (flat_map (λ (input : List ℕ). input) (map reads_of inputs)) ≤ count number (concat (map numbers_of inputs))
fewer_inputs [] number claims = omega arith
fewer_inputs (input ∷ inputs) number claims =
    omega (arith, claims.0 number, fewer_inputs inputs number claims.1, counted-append number (reads_of input) (flat_map (λ (one : List ℕ). one) (map reads_of inputs)), counted-append number (numbers_of input) (concat (map numbers_of inputs)))

fewer_behind : (own number : ℕ) (reads inner : List ℕ) → count number reads ≤ count number inner → count number reads ≤ count number (own ∷ inner)
fewer_behind own number reads inner few = omega (arith, few, more_counted own number inner)

fewer_both : (own number : ℕ) (left right : Rel) → IsFewer left → IsFewer right → count number (reads_of right ++ reads_of left) ≤ count number (own ∷ (numbers_of left ++ numbers_of right))
fewer_both own number left right first second =
    omega (arith, first number, second number, counted-append number (reads_of right) (reads_of left), counted-append number (numbers_of left) (numbers_of right), more_counted own number (numbers_of left ++ numbers_of right))

fewer_in : (level : Op-F Op Rel) (own number : ℕ) → Inputs IsFewer level → count number (level_reads level own) ≤ count number (own ∷ level_numbers level)
fewer_in (Op-F.Read source names types filter mask) own number claims = omega arith
fewer_in (Op-F.Filter input condition) own number claims = fewer_behind own number (reads_of input) (numbers_of input) (claims number)
fewer_in (Op-F.Project input exprs) own number claims = fewer_behind own number (reads_of input) (numbers_of input) (claims number)
fewer_in (Op-F.Fetch input offset limit) own number claims = fewer_behind own number (reads_of input) (numbers_of input) (claims number)
fewer_in (Op-F.Sort input keys) own number claims = fewer_behind own number (reads_of input) (numbers_of input) (claims number)
fewer_in (Op-F.Aggregate input groups measures) own number claims = fewer_behind own number (reads_of input) (numbers_of input) (claims number)
fewer_in (Op-F.GroupSets input groups sets measures) own number claims = fewer_behind own number (reads_of input) (numbers_of input) (claims number)
fewer_in (Op-F.Join left right kind on post) own number claims = fewer_both own number left right claims.0 claims.1
fewer_in (Op-F.Cross left right) own number claims = fewer_both own number left right claims.0 claims.1
fewer_in (Op-F.Set inputs op) own number claims =
    fewer_behind own number (flat_map (λ (input : List ℕ). input) (map reads_of inputs)) (concat (map numbers_of inputs)) (fewer_inputs inputs number claims)

op_fewer : (x : Op-F Op Rel) (y : Op-F (With OpIsFewer) (With IsFewer)) → map-Op (With OpIsFewer) (With IsFewer) Op Rel (λ e. e.0) (λ e. e.0) y ≡ x → OpIsFewer (roll-Op x)
op_fewer x y is own number =
    let claims = subst (Inputs IsFewer) is (held_inputs OpIsFewer IsFewer y) in
    let inner : numbers_of_op (roll-Op x) ≡ level_numbers x = fold-roll-Op (List ℕ) (List ℕ) op_numbers (λ rel. rel.number ∷ rel.op) x in
    subst (λ (reads : List ℕ). count number reads ≤ count number (own ∷ numbers_of_op (roll-Op x))) (sym (of_level x own))
    (subst (λ (all : List ℕ). count number (level_reads x own) ≤ count number (own ∷ all)) (sym inner) (fewer_in x own number claims))

rel_fewer : (x : Rel-F Op Rel) (y : Rel-F (With OpIsFewer) (With IsFewer)) → map-Rel (With OpIsFewer) (With IsFewer) Op Rel (λ e. e.0) (λ e. e.0) y ≡ x → IsFewer (roll-Rel x)
rel_fewer x y is number =
    let claim : OpIsFewer x.op = subst (λ (l : Rel-F Op Rel). OpIsFewer l.op) is y.op.1 in
    let all : numbers_of (roll-Rel x) ≡ x.number ∷ numbers_of_op x.op = fold-roll-Rel (List ℕ) (List ℕ) op_numbers (λ rel. rel.number ∷ rel.op) x in
    subst (λ (reads : List ℕ). count number reads ≤ count number (numbers_of (roll-Rel x))) (sym (of_rolled x))
    (subst (λ (inner : List ℕ). count number (reads_of_op x.op x.number) ≤ count number inner) (sym all) (claim x.number number))

fewer : (rel : Rel) → IsFewer rel
fewer = ind-Rel OpIsFewer IsFewer op_fewer rel_fewer

pub reads_differ : (rel : Rel) → AllDiffer (numbers_of rel) → AllDiffer (reads_of rel)
reads_differ rel differ number = omega (arith, fewer rel number, differ number)
