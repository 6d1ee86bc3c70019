-- What holds of each relation by what holds of its inputs, and the read relations of one level.
use Rattle.std.proofs.Common.{◌≡◌, ◌∙◌, ℕ, List, [], ◌∷◌, ◌++◌, sym, ap, subst}
use Rattle.std.specs.List.{AllByRecursion, flat_map}
use Rattle.plan_typed.specs.declared.rel.Op.{Op, out-Op, roll-Op, out-roll-Op, roll-out-Op, map-Op}
use Rattle.plan_typed.specs.declared.rel.Op.TheFolds.{ind-Rel}
use Rattle.plan_typed.specs.declared.rel.Op.TheOpen.{Op-F}
use Rattle.plan_typed.specs.declared.rel.Op.TheVariants.{rolls-Read, rolls-Filter, rolls-Project, rolls-Fetch, rolls-Sort, rolls-Aggregate, rolls-GroupSets, rolls-Join, rolls-Cross, rolls-Set}
use Rattle.plan_typed.specs.declared.rel.Rel.{Rel, Rel-F, out-Rel, roll-Rel, out-roll-Rel, map-Rel}
use Rattle.well_typed.proofs.ValidKinds.{With}
use Rattle.denote_typed.proofs.Law.{Inputs, held_inputs}
use Rattle.plan_reads.specs.declared.reads.PlanRead.{PlanRead}
use Rattle.plan_reads.specs.Reads.{read_of, reads_in}
use Rattle.plan_reads.proofs.ReadLaws.{reads_of_op, of_op, of_Read, of_Filter, of_Project, of_Fetch, of_Sort, of_Aggregate, of_GroupSets, of_Join, of_Cross, of_Set}

module _ (P : Rel → Type 0) (k : (rel : Rel) → Inputs P (out-Op (out-Rel rel).op) → P rel) where
  abbrev OpClaim : Op → Type 0
  OpClaim op = Inputs P (out-Op op)

  op_held : (x : Op-F Op Rel) (y : Op-F (With OpClaim) (With P)) → map-Op (With OpClaim) (With P) Op Rel (λ e. e.0) (λ e. e.0) y ≡ x → OpClaim (roll-Op x)
  op_held x y is = subst (Inputs P) (is ∙ sym (out-roll-Op x)) (held_inputs OpClaim P y)

  rel_held : (x : Rel-F Op Rel) (y : Rel-F (With OpClaim) (With P)) → map-Rel (With OpClaim) (With P) Op Rel (λ e. e.0) (λ e. e.0) y ≡ x → P (roll-Rel x)
  rel_held x y is = k (roll-Rel x) (subst (λ (level : Rel-F Op Rel). OpClaim level.op) (is ∙ sym (out-roll-Rel x)) y.op.1)

  -- of each relation, where it holds of a relation whose inputs it holds of
  pub by_inputs : (rel : Rel) → P rel
  by_inputs = ind-Rel OpClaim P op_held rel_held

-- the read relations of what a relation of this number does
abbrev pub level_reads : Op-F Op Rel → ℕ → List PlanRead
level_reads (Op-F.Read source names types filter mask) number = read_of number source names types ∷ []
level_reads (Op-F.Filter input condition) number = reads_in input
level_reads (Op-F.Project input exprs) number = reads_in input
level_reads (Op-F.Fetch input offset count) number = reads_in input
level_reads (Op-F.Sort input keys) number = reads_in input
level_reads (Op-F.Aggregate input groups measures) number = reads_in input
level_reads (Op-F.GroupSets input groups sets measures) number = reads_in input
level_reads (Op-F.Join left right kind on post) number = reads_in left ++ reads_in right
level_reads (Op-F.Cross left right) number = reads_in left ++ reads_in right
level_reads (Op-F.Set inputs op) number = flat_map reads_in inputs

-- those of an operation, by the variant that it rolls into
rolled : (level : Op-F Op Rel) (op : Op) (number : ℕ) (reads : List PlanRead) → roll-Op level ≡ op → reads_of_op op number ≡ reads → reads_of_op (roll-Op level) number ≡ reads
rolled level op number reads rolls is = ap (λ one. reads_of_op one number) rolls ∙ is

pub level_is : (level : Op-F Op Rel) (number : ℕ) → reads_of_op (roll-Op level) number ≡ level_reads level number
level_is (Op-F.Read source names types filter mask) number = rolled (Op-F.Read source names types filter mask) _ number _ (rolls-Read source names types filter mask) (of_Read source names types filter mask number)
level_is (Op-F.Filter input condition) number = rolled (Op-F.Filter input condition) _ number _ (rolls-Filter input condition) (of_Filter input condition number)
level_is (Op-F.Project input exprs) number = rolled (Op-F.Project input exprs) _ number _ (rolls-Project input exprs) (of_Project input exprs number)
level_is (Op-F.Fetch input offset count) number = rolled (Op-F.Fetch input offset count) _ number _ (rolls-Fetch input offset count) (of_Fetch input offset count number)
level_is (Op-F.Sort input keys) number = rolled (Op-F.Sort input keys) _ number _ (rolls-Sort input keys) (of_Sort input keys number)
level_is (Op-F.Aggregate input groups measures) number = rolled (Op-F.Aggregate input groups measures) _ number _ (rolls-Aggregate input groups measures) (of_Aggregate input groups measures number)
level_is (Op-F.GroupSets input groups sets measures) number =
    rolled (Op-F.GroupSets input groups sets measures) _ number _ (rolls-GroupSets input groups sets measures) (of_GroupSets input groups sets measures number)
level_is (Op-F.Join left right kind on post) number = rolled (Op-F.Join left right kind on post) _ number _ (rolls-Join left right kind on post) (of_Join left right kind on post number)
level_is (Op-F.Cross left right) number = rolled (Op-F.Cross left right) _ number _ (rolls-Cross left right) (of_Cross left right number)
level_is (Op-F.Set inputs op) number = rolled (Op-F.Set inputs op) _ number _ (rolls-Set inputs op) (of_Set inputs op number)

-- the read relations of a relation, by one level
pub reads_are : (rel : Rel) → reads_in rel ≡ level_reads (out-Op (out-Rel rel).op) (out-Rel rel).number
reads_are rel =
    let level = out-Rel rel in
    of_op rel ∙ ap (λ (op : Op). reads_of_op op level.number) (sym (roll-out-Op level.op)) ∙ level_is (out-Op level.op) level.number

-- what holds of each item of two lists, and of each of several
pub both_parts : {A : Type 0} (P : A → Type 0) (xs ys : List A) → AllByRecursion P (xs ++ ys) → AllByRecursion P xs × AllByRecursion P ys
both_parts P [] ys all = (tt, all)
both_parts P (x ∷ xs) ys all = let rest = both_parts P xs ys all.1 in ((all.0, rest.0), rest.1)

pub each_part : {A B : Type 0} (P : B → Type 0) (f : A → List B) (xs : List A) → AllByRecursion P (flat_map f xs) → AllByRecursion (λ x. AllByRecursion P (f x)) xs
each_part P f [] all = tt
each_part P f (x ∷ xs) all = let both = both_parts P (f x) (flat_map f xs) all in (both.0, each_part P f xs both.1)

pub both_joined : {A : Type 0} (P : A → Type 0) (xs ys : List A) → AllByRecursion P xs → AllByRecursion P ys → AllByRecursion P (xs ++ ys)
both_joined P [] ys all others = others
both_joined P (x ∷ xs) ys all others = (all.0, both_joined P xs ys all.1 others)

pub each_joined : {A B : Type 0} (P : B → Type 0) (f : A → List B) (xs : List A) → AllByRecursion (λ x. AllByRecursion P (f x)) xs → AllByRecursion P (flat_map f xs)
each_joined P f [] all = tt
each_joined P f (x ∷ xs) all = both_joined P (f x) (flat_map f xs) all.0 (each_joined P f xs all.1)

module _ (P : PlanRead → Type 0) where
  -- each read relation of a relation and below it
  abbrev pub AllReads : Rel → Type 0
  AllReads rel = AllByRecursion P (reads_in rel)

  -- the read relation that a level is
  abbrev pub OwnRead : Op-F Op Rel → ℕ → Type 0
  OwnRead (Op-F.Read source names types filter mask) number = P (read_of number source names types)
  OwnRead _ number = Unit {0}

  own_read : (level : Op-F Op Rel) (number : ℕ) → AllByRecursion P (level_reads level number) → OwnRead level number
  own_read (Op-F.Read source names types filter mask) number all = all.0
  own_read (Op-F.Filter input condition) number all = tt
  own_read (Op-F.Project input exprs) number all = tt
  own_read (Op-F.Fetch input offset count) number all = tt
  own_read (Op-F.Sort input keys) number all = tt
  own_read (Op-F.Aggregate input groups measures) number all = tt
  own_read (Op-F.GroupSets input groups sets measures) number all = tt
  own_read (Op-F.Join left right kind on post) number all = tt
  own_read (Op-F.Cross left right) number all = tt
  own_read (Op-F.Set inputs op) number all = tt

  inputs_read : (level : Op-F Op Rel) (number : ℕ) → AllByRecursion P (level_reads level number) → Inputs AllReads level
  inputs_read (Op-F.Read source names types filter mask) number all = tt
  inputs_read (Op-F.Filter input condition) number all = all
  inputs_read (Op-F.Project input exprs) number all = all
  inputs_read (Op-F.Fetch input offset count) number all = all
  inputs_read (Op-F.Sort input keys) number all = all
  inputs_read (Op-F.Aggregate input groups measures) number all = all
  inputs_read (Op-F.GroupSets input groups sets measures) number all = all
  inputs_read (Op-F.Join left right kind on post) number all = both_parts P (reads_in left) (reads_in right) all
  inputs_read (Op-F.Cross left right) number all = both_parts P (reads_in left) (reads_in right) all
  inputs_read (Op-F.Set inputs op) number all = each_part P reads_in inputs all

  -- the relation's own, and those of its inputs
  pub own_and_inputs : (rel : Rel) → AllReads rel → OwnRead (out-Op (out-Rel rel).op) (out-Rel rel).number × Inputs AllReads (out-Op (out-Rel rel).op)
  own_and_inputs rel all =
      let level = out-Rel rel in
      let here = subst (AllByRecursion P) (reads_are rel) all in
      (own_read (out-Op level.op) level.number here, inputs_read (out-Op level.op) level.number here)

  level_joined : (level : Op-F Op Rel) (number : ℕ) → OwnRead level number → Inputs AllReads level → AllByRecursion P (level_reads level number)
  level_joined (Op-F.Read source names types filter mask) number own inputs = (own, tt)
  level_joined (Op-F.Filter input condition) number own inputs = inputs
  level_joined (Op-F.Project input exprs) number own inputs = inputs
  level_joined (Op-F.Fetch input offset count) number own inputs = inputs
  level_joined (Op-F.Sort input keys) number own inputs = inputs
  level_joined (Op-F.Aggregate input groups measures) number own inputs = inputs
  level_joined (Op-F.GroupSets input groups sets measures) number own inputs = inputs
  level_joined (Op-F.Join left right kind on post) number own inputs = both_joined P (reads_in left) (reads_in right) inputs.0 inputs.1
  level_joined (Op-F.Cross left right) number own inputs = both_joined P (reads_in left) (reads_in right) inputs.0 inputs.1
  level_joined (Op-F.Set inputs op) number own all = each_joined P reads_in inputs all

  -- and the other way round
  pub from_own : (rel : Rel) → OwnRead (out-Op (out-Rel rel).op) (out-Rel rel).number → Inputs AllReads (out-Op (out-Rel rel).op) → AllReads rel
  from_own rel own inputs = let level = out-Rel rel in subst (AllByRecursion P) (sym (reads_are rel)) (level_joined (out-Op level.op) level.number own inputs)
