-- The numbers of a plan's read relations in order are the same, whether a join's left input comes first or its right one.
use Rattle.std.proofs.Common.{◌≡◌, ◌∙◌, ◌<◌, ◌≤◌, ℕ, List, [], ◌∷◌, ◌++◌, Bool, true, false, inl, inr, map, refl, sym, ap, ap₂, arith}
use Rattle.std.specs.Prelude.{if◌then◌else◌}
use Rattle.std.specs.Cmp.{nat_cmp_is}
use Rattle.std.specs.List.{AllByRecursion, flat_map}
use Rattle.std.specs.Ordering.{nat_cmp, is_gt, on}
use Rattle.std.specs.declared.cmp.Ordering.{Ordering}
use Rattle.std.specs.declared.cmp.Ordering.TheVariants.{Less, Equal, Greater}
use Rattle.std.proofs.lemmas.Bool.{cases_lt}
use Rattle.std.proofs.lemmas.List.{map-append}
use Rattle.plan_typed.specs.declared.rel.Op.{Op, out-Op, roll-Op, roll-out-Op}
use Rattle.plan_typed.specs.declared.rel.Op.TheOpen.{Op-F}
use Rattle.plan_typed.specs.declared.rel.Op.TheVariants.{rolls-Read, rolls-Filter, rolls-Project, rolls-Fetch, rolls-Sort, rolls-Aggregate, rolls-GroupSets, rolls-Join, rolls-Cross, rolls-Set}
use Rattle.plan_typed.specs.declared.rel.Rel.{Rel, out-Rel}
use Rattle.plan_denote.specs.Sort.{placed, arranged}
use Rattle.denote_typed.proofs.Law.{Inputs}
use Rattle.plan_reads.specs.declared.reads.PlanRead.{PlanRead}
use Rattle.plan_reads.specs.Reads.{read_of, reads_in}
use Rattle.plan_laws.proofs.Levels.{by_inputs, level_reads, reads_are}
use Rattle.cut_laws.specs.Reads.{reads_of, reads_of_op}
use Rattle.cut_laws.proofs.LevelLaws as cut
use Rattle.agree_laws.specs.Agree.{numbers_in}

-- the items in order have their numbers in order
module _ {A : Type 0} (number : A → ℕ) where
  abbrev by : A → A → Ordering
  by = on number nat_cmp

  placed_if : (x y : A) (ys : List A) (test : Bool) → map number (placed by x ys) ≡ placed nat_cmp (number x) (map number ys)
      → map number (if test then y ∷ placed by x ys else x ∷ y ∷ ys) ≡ (if test then number y ∷ placed nat_cmp (number x) (map number ys) else number x ∷ number y ∷ map number ys)
  placed_if x y ys true same = ap (λ (rest : List ℕ). number y ∷ rest) same
  placed_if x y ys false same = refl

  placed_numbers : (x : A) (ys : List A) → map number (placed by x ys) ≡ placed nat_cmp (number x) (map number ys)
  placed_numbers x [] = refl
  placed_numbers x (y ∷ ys) = placed_if x y ys (is_gt (nat_cmp (number x) (number y))) (placed_numbers x ys)

  pub arranged_numbers : (xs : List A) → map number (arranged by xs) ≡ arranged nat_cmp (map number xs)
  arranged_numbers [] = refl
  arranged_numbers (x ∷ xs) = placed_numbers x (arranged by xs) ∙ ap (placed nat_cmp (number x)) (arranged_numbers xs)

-- a number behind those that are less, or before the rest
abbrev put : ℕ → List ℕ → List ℕ
put = placed nat_cmp

over : (x y : ℕ) → y < x → is_gt (nat_cmp x y) ≡ true
over x y less = ap is_gt (sym (nat_cmp_is x y Greater less))

not_over : (x y : ℕ) → x ≤ y → is_gt (nat_cmp x y) ≡ false
not_over x y most =
    elim (cases_lt x y) [
      | inl below ↦ ap is_gt (sym (nat_cmp_is x y Less below))
      | inr above ↦ ap is_gt (sym (nat_cmp_is x y Equal (omega (arith, most, above))))
    ]

put_behind : (x y : ℕ) (ys : List ℕ) → y < x → put x (y ∷ ys) ≡ y ∷ put x ys
put_behind x y ys less = ap (λ (test : Bool). if test then y ∷ put x ys else x ∷ y ∷ ys) (over x y less)

put_before : (x y : ℕ) (ys : List ℕ) → x ≤ y → put x (y ∷ ys) ≡ x ∷ y ∷ ys
put_before x y ys most = ap (λ (test : Bool). if test then y ∷ put x ys else x ∷ y ∷ ys) (not_over x y most)

-- two that stand before the rest
put_two : (x y : ℕ) (rest : List ℕ) → put x rest ≡ x ∷ rest → put y rest ≡ y ∷ rest → put x (y ∷ rest) ≡ put y (x ∷ rest)
put_two x y rest first second =
    elim (cases_lt y x) [
      | inl less ↦ put_behind x y rest less ∙ ap (λ (more : List ℕ). y ∷ more) first ∙ sym (put_before y x rest (omega (arith, less)))
      | inr most ↦ elim (cases_lt x y) [
        | inl below ↦ put_before x y rest most ∙ sym (put_behind y x rest below ∙ ap (λ (more : List ℕ). x ∷ more) second)
        | inr above ↦
            let same : x ≡ y = omega (arith, most, above) in
            put_before x y rest most ∙ ap₂ (λ (a b : ℕ). a ∷ b ∷ rest) same (sym same) ∙ sym (put_before y x rest above)
      ]
    ]

-- the order in which two are put is free
put_both : (x y : ℕ) (zs : List ℕ) → put x (put y zs) ≡ put y (put x zs)
put_both x y [] = put_two x y [] refl refl
put_both x y (z ∷ zs) =
    elim (cases_lt z x) [
      | inl first ↦ elim (cases_lt z y) [
        | inl second ↦
            ap (put x) (put_behind y z zs second) ∙ put_behind x z (put y zs) first ∙ ap (λ (more : List ℕ). z ∷ more) (put_both x y zs)
            ∙ sym (ap (put y) (put_behind x z zs first) ∙ put_behind y z (put x zs) second)
        | inr second ↦
            ap (put x) (put_before y z zs second) ∙ put_behind x y (z ∷ zs) (omega (arith, first, second)) ∙ ap (λ (more : List ℕ). y ∷ more) (put_behind x z zs first)
            ∙ sym (ap (put y) (put_behind x z zs first) ∙ put_before y z (put x zs) second)
      ]
      | inr first ↦ elim (cases_lt z y) [
        | inl second ↦
            ap (put x) (put_behind y z zs second) ∙ put_before x z (put y zs) first
            ∙ sym (ap (put y) (put_before x z zs first) ∙ put_behind y x (z ∷ zs) (omega (arith, first, second)) ∙ ap (λ (more : List ℕ). x ∷ more) (put_behind y z zs second))
        | inr second ↦
            ap (put x) (put_before y z zs second) ∙ put_two x y (z ∷ zs) (put_before x z zs first) (put_before y z zs second) ∙ sym (ap (put y) (put_before x z zs first))
      ]
    ]

-- several, one after the other
abbrev put_all : List ℕ → List ℕ → List ℕ
put_all [] rest = rest
put_all (x ∷ xs) rest = put x (put_all xs rest)

put_parts : (xs ys rest : List ℕ) → put_all (xs ++ ys) rest ≡ put_all xs (put_all ys rest)
put_parts [] ys rest = refl
put_parts (x ∷ xs) ys rest = ap (put x) (put_parts xs ys rest)

put_past : (x : ℕ) (ys rest : List ℕ) → put x (put_all ys rest) ≡ put_all ys (put x rest)
put_past x [] rest = refl
put_past x (y ∷ ys) rest = put_both x y (put_all ys rest) ∙ ap (put y) (put_past x ys rest)

put_swapped : (xs ys rest : List ℕ) → put_all xs (put_all ys rest) ≡ put_all ys (put_all xs rest)
put_swapped [] ys rest = refl
put_swapped (x ∷ xs) ys rest = ap (put x) (put_swapped xs ys rest) ∙ put_past x ys (put_all xs rest)

in_order : (xs : List ℕ) → arranged nat_cmp xs ≡ put_all xs []
in_order [] = refl
in_order (x ∷ xs) = ap (put x) (in_order xs)

-- the numbers of one level, in the order in which they are read
abbrev pub cut_level : Op-F Op Rel → ℕ → List ℕ
cut_level (Op-F.Read source names types filter mask) number = number ∷ []
cut_level (Op-F.Filter input condition) number = reads_of input
cut_level (Op-F.Project input exprs) number = reads_of input
cut_level (Op-F.Fetch input offset count) number = reads_of input
cut_level (Op-F.Sort input keys) number = reads_of input
cut_level (Op-F.Aggregate input groups measures) number = reads_of input
cut_level (Op-F.GroupSets input groups sets measures) number = reads_of input
cut_level (Op-F.Join left right kind on post) number = reads_of right ++ reads_of left
cut_level (Op-F.Cross left right) number = reads_of right ++ reads_of left
cut_level (Op-F.Set inputs op) number = flat_map reads_of inputs

rolled : (level : Op-F Op Rel) (op : Op) (number : ℕ) (reads : List ℕ) → roll-Op level ≡ op → reads_of_op op number ≡ reads → reads_of_op (roll-Op level) number ≡ reads
rolled level op number reads rolls is = ap (λ one. reads_of_op one number) rolls ∙ is

level_is : (level : Op-F Op Rel) (number : ℕ) → reads_of_op (roll-Op level) number ≡ cut_level level number
level_is (Op-F.Read source names types filter mask) number = rolled (Op-F.Read source names types filter mask) _ number _ (rolls-Read source names types filter mask) (cut.of_Read source names types filter mask number)
level_is (Op-F.Filter input condition) number = rolled (Op-F.Filter input condition) _ number _ (rolls-Filter input condition) (cut.of_Filter input condition number)
level_is (Op-F.Project input exprs) number = rolled (Op-F.Project input exprs) _ number _ (rolls-Project input exprs) (cut.of_Project input exprs number)
level_is (Op-F.Fetch input offset count) number = rolled (Op-F.Fetch input offset count) _ number _ (rolls-Fetch input offset count) (cut.of_Fetch input offset count number)
level_is (Op-F.Sort input keys) number = rolled (Op-F.Sort input keys) _ number _ (rolls-Sort input keys) (cut.of_Sort input keys number)
level_is (Op-F.Aggregate input groups measures) number = rolled (Op-F.Aggregate input groups measures) _ number _ (rolls-Aggregate input groups measures) (cut.of_Aggregate input groups measures number)
level_is (Op-F.GroupSets input groups sets measures) number =
    rolled (Op-F.GroupSets input groups sets measures) _ number _ (rolls-GroupSets input groups sets measures) (cut.of_GroupSets input groups sets measures number)
level_is (Op-F.Join left right kind on post) number = rolled (Op-F.Join left right kind on post) _ number _ (rolls-Join left right kind on post) (cut.of_Join left right kind on post number)
level_is (Op-F.Cross left right) number = rolled (Op-F.Cross left right) _ number _ (rolls-Cross left right) (cut.of_Cross left right number)
level_is (Op-F.Set inputs op) number = rolled (Op-F.Set inputs op) _ number _ (rolls-Set inputs op) (cut.of_Set inputs op number)

pub cut_reads_are : (rel : Rel) → reads_of rel ≡ cut_level (out-Op (out-Rel rel).op) (out-Rel rel).number
cut_reads_are rel =
    let level = out-Rel rel in
    cut.of_rel rel ∙ ap (λ (op : Op). reads_of_op op level.number) (sym (roll-out-Op level.op)) ∙ level_is (out-Op level.op) level.number

abbrev pub numbers_read : Rel → List ℕ
numbers_read rel = numbers_in (reads_in rel)

-- put before any others, they come out the same
abbrev Same : Rel → Type 0
Same rel = (rest : List ℕ) → put_all (reads_of rel) rest ≡ put_all (numbers_read rel) rest

both_same : (left right : Rel) → Same left → Same right → (rest : List ℕ) → put_all (reads_of right ++ reads_of left) rest ≡ put_all (numbers_in (reads_in left ++ reads_in right)) rest
both_same left right first second rest =
    put_parts (reads_of right) (reads_of left) rest
    ∙ second (put_all (reads_of left) rest)
    ∙ ap (put_all (numbers_read right)) (first rest)
    ∙ put_swapped (numbers_read right) (numbers_read left) rest
    ∙ sym (ap (λ (all : List ℕ). put_all all rest) (map-append (λ (read : PlanRead). read.relation) (reads_in left) (reads_in right)) ∙ put_parts (numbers_read left) (numbers_read right) rest)

all_same : (inputs : List Rel) → AllByRecursion Same inputs → (rest : List ℕ) → put_all (flat_map reads_of inputs) rest ≡ put_all (numbers_in (flat_map reads_in inputs)) rest
all_same [] same rest = refl
all_same (input ∷ inputs) same rest =
    put_parts (reads_of input) (flat_map reads_of inputs) rest
    ∙ same.0 (put_all (flat_map reads_of inputs) rest)
    ∙ ap (put_all (numbers_read input)) (all_same inputs same.1 rest)
    ∙ sym (ap (λ (all : List ℕ). put_all all rest) (map-append (λ (read : PlanRead). read.relation) (reads_in input) (flat_map reads_in inputs)) ∙ put_parts (numbers_read input) (numbers_in (flat_map reads_in inputs)) rest)

level_same : (level : Op-F Op Rel) (number : ℕ) → Inputs Same level → (rest : List ℕ) → put_all (cut_level level number) rest ≡ put_all (numbers_in (level_reads level number)) rest
level_same (Op-F.Read source names types filter mask) number same rest = refl
level_same (Op-F.Filter input condition) number same rest = same rest
level_same (Op-F.Project input exprs) number same rest = same rest
level_same (Op-F.Fetch input offset count) number same rest = same rest
level_same (Op-F.Sort input keys) number same rest = same rest
level_same (Op-F.Aggregate input groups measures) number same rest = same rest
level_same (Op-F.GroupSets input groups sets measures) number same rest = same rest
level_same (Op-F.Join left right kind on post) number same rest = both_same left right same.0 same.1 rest
level_same (Op-F.Cross left right) number same rest = both_same left right same.0 same.1 rest
level_same (Op-F.Set inputs op) number same rest = all_same inputs same rest

relation_same : (rel : Rel) → Inputs Same (out-Op (out-Rel rel).op) → Same rel
relation_same rel same rest =
    let level = out-Rel rel in
    ap (λ (all : List ℕ). put_all all rest) (cut_reads_are rel) ∙ level_same (out-Op level.op) level.number same rest ∙ sym (ap (λ (all : List PlanRead). put_all (numbers_in all) rest) (reads_are rel))

same_numbers : (rel : Rel) → Same rel
same_numbers = by_inputs Same relation_same

each_same : (rels : List Rel) → AllByRecursion Same rels
each_same [] = tt
each_same (rel ∷ rels) = (same_numbers rel, each_same rels)

-- so the numbers that several relations read are the same in order
pub law_of_order : (rels : List Rel) → arranged nat_cmp (flat_map reads_of rels) ≡ arranged nat_cmp (numbers_in (flat_map reads_in rels))
law_of_order rels = in_order (flat_map reads_of rels) ∙ all_same rels (each_same rels) [] ∙ sym (in_order (numbers_in (flat_map reads_in rels)))
