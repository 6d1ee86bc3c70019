-- Read relations are found by their numbers where the relations of a plan have different ones.
use Rattle.std.proofs.Common.{◌≡◌, ◌∙◌, ℕ, ◌+◌, ◌≤◌, List, [], ◌∷◌, ◌++◌, Bool, true, false, cond, Some, ◌==◌, map, refl, sym, ap, subst, arith, if◌then◌else◌}
use Rattle.std.proofs.lemmas.Bool.{eq-eqb}
use Rattle.std.proofs.lemmas.List.{map-append}
use Rattle.std.proofs.lemmas.List.Sums.{sum_by-append}
use Rattle.std.specs.List.{AllByRecursion, concat, count_by, flat_map}
use Rattle.sub_types.specs.declared.kind.Ty.{Ty}
use Rattle.plan_typed.specs.declared.rel.Op.{Op, out-Op, roll-Op, roll-out-Op, every-Op, every_made-Op, map-Op, fold-Op, fold-roll-Op}
use Rattle.plan_typed.specs.declared.rel.Op.TheFolds.{ind-Rel}
use Rattle.plan_typed.specs.declared.rel.Op.TheOpen.{Op-F}
use Rattle.plan_typed.specs.declared.rel.Rel.{Rel, Rel-F, roll-Rel, map-Rel, every-Rel, every_made-Rel, fold-roll-Rel}
use Rattle.plan_typed.specs.Numbers.{numbers_of, op_numbers}
use Rattle.well_typed.specs.WellTyped.{AllDiffer}
use Rattle.well_typed.proofs.ValidKinds.{With, all_both}
use Rattle.plan_denote.specs.Denote.{Tables, source_rows}
use Rattle.cut_laws.specs.Found.{ReadRel, op_read_rels, rel_read_rels, read_rels, read_rels_of_op, read_at, rows_read, types_read, inputs_of, columns_read}
use Rattle.cut_laws.specs.Reads.{GivesAt, ReadsGive, HasAt, ReadsHave, Inputs}
use Rattle.cut_laws.proofs.LevelLaws.{held_inputs}

abbrev Nothing : Op-F Op Rel → Type 0
Nothing _ = Unit {0}

abbrev numbers : List ReadRel → List ℕ
numbers reads = map (λ (read : ReadRel). read.number) reads

abbrev count : ℕ → List ℕ → ℕ
count number all = count_by (λ one. one == number) all

abbrev weight : Bool → ℕ
weight test = cond test 1 0

-- one level of the read relations
abbrev level_reads : Op-F Op Rel → ℕ → List ReadRel
level_reads level number = op_read_rels (map-Op Op Rel (ℕ → List ReadRel) (List ReadRel) read_rels_of_op read_rels level) number

of_level : (level : Op-F Op Rel) (number : ℕ) → read_rels_of_op (roll-Op level) number ≡ level_reads level number
unfolding read_rels read_rels_of_op
of_level level number = ap (λ (reads : ℕ → List ReadRel). reads number) (fold-roll-Op (ℕ → List ReadRel) (List ReadRel) op_read_rels rel_read_rels level)

of_rolled : (level : Rel-F Op Rel) → read_rels (roll-Rel level) ≡ read_rels_of_op level.op level.number
unfolding read_rels read_rels_of_op
of_rolled level = fold-roll-Rel (ℕ → List ReadRel) (List ReadRel) op_read_rels rel_read_rels level

split : {A : Type 0} (P : A → Type 0) (xs ys : List A) → AllByRecursion P (xs ++ ys) → AllByRecursion P xs × AllByRecursion P ys
split P [] ys all = (tt, all)
split P (x ∷ xs) ys all = let rest = split P xs ys all.1 in ((all.0, rest.0), rest.1)

each : {A : Type 0} (P Q : A → Type 0) (xs : List A) → ((x : A) → P x → Q x) → AllByRecursion P xs → AllByRecursion Q xs
each P Q [] k all = tt
each P Q (x ∷ xs) k all = (k x all.0, each P Q xs k all.1)

paired : {A : Type 0} (P : A → Type 0) (xs : List A) → AllByRecursion P xs → (ys : List (With P)) × (map (λ e. e.0) ys ≡ xs)
paired P [] all = ([], refl)
paired P (x ∷ xs) all = let rest = paired P xs all.1 in ((x, all.0) ∷ rest.0, ap (λ l. x ∷ l) rest.1)

-- what holds of all read relations holds of each where it stands
module _ (Q : ReadRel → Type 0) (On : ℕ → Op-F Op Rel → Type 0) (here : (level : Op-F Op Rel) (number : ℕ) → AllByRecursion Q (level_reads level number) → On number level) where
  abbrev Here : Rel-F Op Rel → Type 0
  Here rel = On rel.number (out-Op rel.op)

  abbrev All : Rel → Type 0
  All rel = every-Rel Nothing Here rel

  abbrev RelClaim : Rel → Type 0
  RelClaim rel = AllByRecursion Q (read_rels rel) → All rel

  abbrev OpClaim : Op → Type 0
  OpClaim op = (number : ℕ) → AllByRecursion Q (read_rels_of_op op number) → every-Op Nothing Here op

  rolled : (level : Op-F Op Rel) → Inputs All level → every-Op Nothing Here (roll-Op level)
  rolled (Op-F.Read source names types filter mask) h = every_made-Op Nothing Here (Op-F.Read source names types filter mask) (Op-F.Read source names types filter mask) refl tt
  rolled (Op-F.Filter input condition) h = every_made-Op Nothing Here (Op-F.Filter input condition) (Op-F.Filter (input, h) condition) refl tt
  rolled (Op-F.Project input exprs) h = every_made-Op Nothing Here (Op-F.Project input exprs) (Op-F.Project (input, h) exprs) refl tt
  rolled (Op-F.Fetch input offset count) h = every_made-Op Nothing Here (Op-F.Fetch input offset count) (Op-F.Fetch (input, h) offset count) refl tt
  rolled (Op-F.Sort input keys) h = every_made-Op Nothing Here (Op-F.Sort input keys) (Op-F.Sort (input, h) keys) refl tt
  rolled (Op-F.Aggregate input groups measures) h = every_made-Op Nothing Here (Op-F.Aggregate input groups measures) (Op-F.Aggregate (input, h) groups measures) refl tt
  rolled (Op-F.GroupSets input groups sets measures) h = every_made-Op Nothing Here (Op-F.GroupSets input groups sets measures) (Op-F.GroupSets (input, h) groups sets measures) refl tt
  rolled (Op-F.Join left right kind on post) h = every_made-Op Nothing Here (Op-F.Join left right kind on post) (Op-F.Join (left, h.0) (right, h.1) kind on post) refl tt
  rolled (Op-F.Cross left right) h = every_made-Op Nothing Here (Op-F.Cross left right) (Op-F.Cross (left, h.0) (right, h.1)) refl tt
  rolled (Op-F.Set inputs op) h =
      let held = paired All inputs h in
      every_made-Op Nothing Here (Op-F.Set inputs op) (Op-F.Set held.0 op) (ap (λ l. Op-F.Set l op) held.1) tt

  of_inputs : (inputs : List Rel) → AllByRecursion RelClaim inputs → AllByRecursion Q (flat_map (λ (input : List ReadRel). input) (map read_rels inputs)) → AllByRecursion All inputs
  of_inputs [] claims all = tt
  of_inputs (input ∷ inputs) claims all =
      let parts = split Q (read_rels input) (flat_map (λ (one : List ReadRel). one) (map read_rels inputs)) all in
      (claims.0 parts.0, of_inputs inputs claims.1 parts.1)

  below : (level : Op-F Op Rel) (number : ℕ) → Inputs RelClaim level → AllByRecursion Q (level_reads level number) → Inputs All level
  below (Op-F.Read source names types filter mask) number claims all = tt
  below (Op-F.Filter input condition) number claims all = claims all
  below (Op-F.Project input exprs) number claims all = claims all
  below (Op-F.Fetch input offset count) number claims all = claims all
  below (Op-F.Sort input keys) number claims all = claims all
  below (Op-F.Aggregate input groups measures) number claims all = claims all
  below (Op-F.GroupSets input groups sets measures) number claims all = claims all
  below (Op-F.Join left right kind on post) number claims all = let parts = split Q (read_rels right) (read_rels left) all in (claims.0 parts.1, claims.1 parts.0)
  below (Op-F.Cross left right) number claims all = let parts = split Q (read_rels right) (read_rels left) all in (claims.0 parts.1, claims.1 parts.0)
  below (Op-F.Set inputs op) number claims all = of_inputs inputs claims all

  op_all : (x : Op-F Op Rel) (y : Op-F (With OpClaim) (With RelClaim)) → map-Op (With OpClaim) (With RelClaim) Op Rel (λ e. e.0) (λ e. e.0) y ≡ x → OpClaim (roll-Op x)
  op_all x y is number all =
      let claims = subst (Inputs RelClaim) is (held_inputs OpClaim RelClaim y) in
      rolled x (below x number claims (subst (AllByRecursion Q) (of_level x number) all))

  rel_all : (x : Rel-F Op Rel) (y : Rel-F (With OpClaim) (With RelClaim)) → map-Rel (With OpClaim) (With RelClaim) Op Rel (λ e. e.0) (λ e. e.0) y ≡ x → RelClaim (roll-Rel x)
  rel_all x y is all =
      let reads : AllByRecursion Q (read_rels_of_op x.op x.number) = subst (AllByRecursion Q) (of_rolled x) all in
      let claim : OpClaim x.op = subst (λ (l : Rel-F Op Rel). OpClaim l.op) is y.op.1 in
      let own : AllByRecursion Q (level_reads (out-Op x.op) x.number) =
      subst (AllByRecursion Q) (of_level (out-Op x.op) x.number) (subst (λ (op : Op). AllByRecursion Q (read_rels_of_op op x.number)) (sym (roll-out-Op x.op)) reads) in
      every_made-Rel Nothing Here x (record { number = x.number; op = (x.op, claim x.number reads); emit = x.emit; columns = x.columns }) refl (here (out-Op x.op) x.number own)

  all_reads : (rel : Rel) → RelClaim rel
  all_reads = ind-Rel OpClaim RelClaim op_all rel_all

-- a number is counted in its own list
counted-append : (number : ℕ) (xs ys : List ℕ) → count number (xs ++ ys) ≡ count number xs + count number ys
counted-append number xs ys = sum_by-append (λ one. weight (one == number)) xs ys

counted-first : (first number : ℕ) (rest : List ℕ) → count number (first ∷ rest) ≡ weight (first == number) + count number rest
counted-first first number rest = omega (arith, counted-append number (first ∷ []) rest)

more_counted : (first number : ℕ) (rest : List ℕ) → count number rest ≤ count number (first ∷ rest)
more_counted first number rest = omega (arith, counted-first first number rest)

own_counted : (number : ℕ) (rest : List ℕ) → 1 ≤ count number (number ∷ rest)
own_counted number rest =
    let one : weight (number == number) ≡ weight true = ap weight (eq-eqb number number refl) in
    omega (arith, one, counted-first number number rest)

all_counted : (reads : List ReadRel) → AllByRecursion (λ (read : ReadRel). 1 ≤ count read.number (numbers reads)) reads
all_counted [] = tt
all_counted (first ∷ rest) = (
  own_counted first.number (numbers rest),
  each (λ (read : ReadRel). 1 ≤ count read.number (numbers rest)) (λ (read : ReadRel). 1 ≤ count read.number (numbers (first ∷ rest))) rest
      (λ read some. omega (arith, some, more_counted first.number read.number (numbers rest))) (all_counted rest),
)

found_behind : (first read : ReadRel) (rest : List ReadRel) (test : Bool) → (first.number == read.number) ≡ test → read_at read.number rest ≡ Some read → 1 ≤ count read.number (numbers rest)
    → count read.number (numbers (first ∷ rest)) ≤ 1 → read_at read.number (first ∷ rest) ≡ Some read
found_behind first read rest true is found some few =
    let one : weight (first.number == read.number) ≡ weight true = ap weight is in
    absurd (omega (arith, one, few, some, counted-first first.number read.number (numbers rest)))
found_behind first read rest false is found some few = ap (λ one. if one then Some first else read_at read.number rest) is ∙ found

-- each is found by its number
all_found : (reads : List ReadRel) → AllDiffer (numbers reads) → AllByRecursion (λ (read : ReadRel). read_at read.number reads ≡ Some read) reads
all_found [] differ = tt
all_found (first ∷ rest) differ = (
  ap (λ one. if one then Some first else read_at first.number rest) (eq-eqb first.number first.number refl),
  all_both (λ (read : ReadRel). read_at read.number rest ≡ Some read) (λ (read : ReadRel). 1 ≤ count read.number (numbers rest)) (λ (read : ReadRel). read_at read.number (first ∷ rest) ≡ Some read) rest
      (λ read found some. found_behind first read rest (first.number == read.number) refl found some (differ read.number))
      (all_found rest (λ number. omega (arith, differ number, more_counted first.number number (numbers rest)))) (all_counted rest),
)

-- no number stands oftener among the read relations than among all relations
reads-append : (number : ℕ) (xs ys : List ReadRel) → count number (numbers (xs ++ ys)) ≡ count number (numbers xs) + count number (numbers ys)
reads-append number xs ys = ap (count number) (map-append (λ (read : ReadRel). read.number) xs ys) ∙ counted-append number (numbers xs) (numbers ys)

abbrev numbers_of_op : Op → List ℕ
numbers_of_op = fold-Op (List ℕ) (List ℕ) op_numbers (λ rel. rel.number ∷ rel.op)

abbrev level_numbers : Op-F Op Rel → List ℕ
level_numbers level = op_numbers (map-Op Op Rel (List ℕ) (List ℕ) numbers_of_op numbers_of level)

abbrev IsFewer : Rel → Type 0
IsFewer rel = (number : ℕ) → count number (numbers (read_rels rel)) ≤ count number (numbers_of rel)

abbrev OpIsFewer : Op → Type 0
OpIsFewer op = (own number : ℕ) → count number (numbers (read_rels_of_op op own)) ≤ count number (own ∷ numbers_of_op op)

fewer_inputs : (inputs : List Rel) (number : ℕ) → AllByRecursion IsFewer inputs → count number (numbers (flat_map (λ (input : List ReadRel). input) (map read_rels inputs))) ≤ count number (concat (map numbers_of inputs))
fewer_inputs [] number claims = omega arith
fewer_inputs (input ∷ inputs) number claims =
    omega (arith, claims.0 number, fewer_inputs inputs number claims.1, reads-append number (read_rels input) (flat_map (λ (one : List ReadRel). one) (map read_rels inputs)), counted-append number (numbers_of input) (concat (map numbers_of inputs)))

fewer_behind : (own number : ℕ) (reads : List ReadRel) (inner : List ℕ) → count number (numbers reads) ≤ count number inner → count number (numbers reads) ≤ count number (own ∷ inner)
fewer_behind own number reads inner few = omega (arith, few, more_counted own number inner)

fewer_both : (own number : ℕ) (left right : Rel) → IsFewer left → IsFewer right → count number (numbers (read_rels right ++ read_rels left)) ≤ count number (own ∷ (numbers_of left ++ numbers_of right))
fewer_both own number left right first second =
    omega (arith, first number, second number, reads-append number (read_rels right) (read_rels left), counted-append number (numbers_of left) (numbers_of right), more_counted own number (numbers_of left ++ numbers_of right))

fewer_in : (level : Op-F Op Rel) (own number : ℕ) → Inputs IsFewer level → count number (numbers (level_reads level own)) ≤ count number (own ∷ level_numbers level)
fewer_in (Op-F.Read source names types filter mask) own number claims = omega arith
fewer_in (Op-F.Filter input condition) own number claims = fewer_behind own number (read_rels input) (numbers_of input) (claims number)
fewer_in (Op-F.Project input exprs) own number claims = fewer_behind own number (read_rels input) (numbers_of input) (claims number)
fewer_in (Op-F.Fetch input offset count) own number claims = fewer_behind own number (read_rels input) (numbers_of input) (claims number)
fewer_in (Op-F.Sort input keys) own number claims = fewer_behind own number (read_rels input) (numbers_of input) (claims number)
fewer_in (Op-F.Aggregate input groups measures) own number claims = fewer_behind own number (read_rels input) (numbers_of input) (claims number)
fewer_in (Op-F.GroupSets input groups sets measures) own number claims = fewer_behind own number (read_rels input) (numbers_of input) (claims number)
fewer_in (Op-F.Join left right kind on post) own number claims = fewer_both own number left right claims.0 claims.1
fewer_in (Op-F.Cross left right) own number claims = fewer_both own number left right claims.0 claims.1
fewer_in (Op-F.Set inputs op) own number claims =
    fewer_behind own number (flat_map (λ (input : List ReadRel). input) (map read_rels inputs)) (concat (map numbers_of inputs)) (fewer_inputs inputs number claims)

op_fewer : (x : Op-F Op Rel) (y : Op-F (With OpIsFewer) (With IsFewer)) → map-Op (With OpIsFewer) (With IsFewer) Op Rel (λ e. e.0) (λ e. e.0) y ≡ x → OpIsFewer (roll-Op x)
op_fewer x y is own number =
    let claims = subst (Inputs IsFewer) is (held_inputs OpIsFewer IsFewer y) in
    let inner : numbers_of_op (roll-Op x) ≡ level_numbers x = fold-roll-Op (List ℕ) (List ℕ) op_numbers (λ rel. rel.number ∷ rel.op) x in
    subst (λ (reads : List ReadRel). count number (numbers reads) ≤ count number (own ∷ numbers_of_op (roll-Op x))) (sym (of_level x own))
    (subst (λ (all : List ℕ). count number (numbers (level_reads x own)) ≤ count number (own ∷ all)) (sym inner) (fewer_in x own number claims))

rel_fewer : (x : Rel-F Op Rel) (y : Rel-F (With OpIsFewer) (With IsFewer)) → map-Rel (With OpIsFewer) (With IsFewer) Op Rel (λ e. e.0) (λ e. e.0) y ≡ x → IsFewer (roll-Rel x)
rel_fewer x y is number =
    let claim : OpIsFewer x.op = subst (λ (l : Rel-F Op Rel). OpIsFewer l.op) is y.op.1 in
    let all : numbers_of (roll-Rel x) ≡ x.number ∷ numbers_of_op x.op = fold-roll-Rel (List ℕ) (List ℕ) op_numbers (λ rel. rel.number ∷ rel.op) x in
    subst (λ (reads : List ReadRel). count number (numbers reads) ≤ count number (numbers_of (roll-Rel x))) (sym (of_rolled x))
    (subst (λ (inner : List ℕ). count number (numbers (read_rels_of_op x.op x.number)) ≤ count number inner) (sym all) (claim x.number number))

fewer : (rel : Rel) → IsFewer rel
fewer = ind-Rel OpIsFewer IsFewer op_fewer rel_fewer

-- each read relation of relations with different numbers is found
found_in : (rel : Rel) → AllDiffer (numbers_of rel) → AllByRecursion (λ (read : ReadRel). read_at read.number (read_rels rel) ≡ Some read) (read_rels rel)
found_in rel differ = all_found (read_rels rel) (λ number. omega (arith, fewer rel number, differ number))

gives_here : (tables inputs : Tables) (level : Op-F Op Rel) (number : ℕ) → AllByRecursion (λ (read : ReadRel). inputs read.number ≡ source_rows tables read.number read.source) (level_reads level number) → GivesAt tables inputs number level
gives_here tables inputs (Op-F.Read source names types filter mask) number all = all.0
gives_here tables inputs _ number all = tt

has_here : (columns : ℕ → List Ty) (level : Op-F Op Rel) (number : ℕ) → AllByRecursion (λ (read : ReadRel). read.types ≡ columns read.number) (level_reads level number) → HasAt columns number level
has_here columns (Op-F.Read source names types filter mask) number all = all.0
has_here columns _ number all = tt

pub inputs_are_given : (tables : Tables) (rel : Rel) → AllDiffer (numbers_of rel) → ReadsGive tables (inputs_of tables rel) rel
inputs_are_given tables rel differ =
    let inputs = inputs_of tables rel in
    all_reads (λ (read : ReadRel). inputs read.number ≡ source_rows tables read.number read.source) (GivesAt tables inputs) (gives_here tables inputs) rel
    (each (λ (read : ReadRel). read_at read.number (read_rels rel) ≡ Some read) (λ (read : ReadRel). inputs read.number ≡ source_rows tables read.number read.source) (read_rels rel)
    (λ read found. ap (rows_read tables read.number) found) (found_in rel differ))

pub columns_are_had : (rel : Rel) → AllDiffer (numbers_of rel) → ReadsHave (columns_read rel) rel
columns_are_had rel differ =
    let columns = columns_read rel in
    all_reads (λ (read : ReadRel). read.types ≡ columns read.number) (HasAt columns) (has_here columns) rel
    (each (λ (read : ReadRel). read_at read.number (read_rels rel) ≡ Some read) (λ (read : ReadRel). read.types ≡ columns read.number) (read_rels rel)
    (λ read found. sym (ap types_read found)) (found_in rel differ))
