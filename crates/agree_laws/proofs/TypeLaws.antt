-- What the read relations of a plan read, by their numbers, and what holds of those of each relation of the plan.
use Rattle.std.proofs.Common.{◌≡◌, ◌∙◌, ℕ, List, [], ◌∷◌, ◌++◌, map, refl, sym, ap, ap₂, subst}
use Rattle.std.specs.List.{AllByRecursion, flat_map}
use Rattle.std.proofs.lemmas.List.{map-append}
use Rattle.sub_types.specs.declared.kind.Ty.{Ty}
use Rattle.plan_typed.specs.declared.rel.Op.{Op, out-Op, roll-Op, roll-out-Op, map-Op, fold-roll-Op}
use Rattle.plan_typed.specs.declared.rel.Op.TheOpen.{Op-F}
use Rattle.plan_typed.specs.declared.rel.Rel.{Rel, Rel-F, out-Rel, roll-Rel, roll-out-Rel, fold-roll-Rel}
use Rattle.plan_typed.specs.declared.rel.Source.{Source}
use Rattle.plan_typed.specs.declared.sub.Holed.{Holed}
use Rattle.well_typed.specs.WellTyped.{IsWellTyped}
use Rattle.denote_typed.proofs.Law.{Inputs, both_inputs}
use Rattle.denote_typed.proofs.RowsLaws.{appended}
use Rattle.cut_laws.specs.Found.{ReadRel, op_read_rels, rel_read_rels, read_rels, read_rels_of_op}
use Rattle.cut_laws.specs.Reads.{reads_of as cut_reads_of}
use Rattle.plan_reads.specs.declared.reads.PlanRead.{PlanRead}
use Rattle.plan_reads.specs.Reads.{read_of, reads_of}
use Rattle.plan_laws.proofs.Levels.{AllReads, OwnRead, own_and_inputs, by_inputs}
use Rattle.plan_laws.proofs.NumberLaws.{one_read}
use Rattle.plan_laws.proofs.FoundLaws.{all_found}
use Rattle.agree_laws.specs.Agree.{IsOfTypes, found_for, types_in}
use Rattle.agree_laws.proofs.OrderLaws.{cut_level, cut_reads_are}

-- in a well-typed plan each read relation is found by its number
pub each_found : {B : Type 0} (value : PlanRead → B) (none : B) (plan : Holed) → IsWellTyped plan → AllByRecursion (λ (read : PlanRead). found_for value none (reads_of plan) read.relation ≡ value read) (reads_of plan)
each_found value none plan typed =
    all_found (λ (read : PlanRead). read.relation) value (found_for value none) (λ first rest number. refl) (reads_of plan) (λ number. one_read number plan typed.numbers)

pub each_of_types : (plan : Holed) → IsWellTyped plan → AllByRecursion (IsOfTypes (types_in plan)) (reads_of plan)
each_of_types plan typed = each_found (λ (read : PlanRead). read.types) [] plan typed

-- one level of the read relations of a relation
abbrev level_rels : Op-F Op Rel → ℕ → List ReadRel
level_rels level number = op_read_rels (map-Op Op Rel (ℕ → List ReadRel) (List ReadRel) read_rels_of_op read_rels level) number

of_level : (level : Op-F Op Rel) (number : ℕ) → read_rels_of_op (roll-Op level) number ≡ level_rels level number
unfolding read_rels read_rels_of_op
of_level level number = ap (λ (reads : ℕ → List ReadRel). reads number) (fold-roll-Op (ℕ → List ReadRel) (List ReadRel) op_read_rels rel_read_rels level)

of_rolled : (level : Rel-F Op Rel) → read_rels (roll-Rel level) ≡ read_rels_of_op level.op level.number
unfolding read_rels read_rels_of_op
of_rolled level = fold-roll-Rel (ℕ → List ReadRel) (List ReadRel) op_read_rels rel_read_rels level

rels_are : (rel : Rel) → read_rels rel ≡ level_rels (out-Op (out-Rel rel).op) (out-Rel rel).number
rels_are rel =
    let level = out-Rel rel in
    ap read_rels (sym (roll-out-Rel rel)) ∙ of_rolled level ∙ ap (λ (op : Op). read_rels_of_op op level.number) (sym (roll-out-Op level.op)) ∙ of_level (out-Op level.op) level.number

-- what holds of each read of a relation holds of each of its read relations
module _ (P : PlanRead → Type 0) (Q : ReadRel → Type 0) (k : (number : ℕ) (source : Source) (names : List (List ℕ)) (types : List Ty) → P (read_of number source names types) → Q (record { number = number; source = source; types = types })) where
  abbrev AllRels : Rel → Type 0
  AllRels rel = AllByRecursion Q (read_rels rel)

  all_joined : (inputs : List Rel) → AllByRecursion AllRels inputs → AllByRecursion Q (flat_map (λ (input : List ReadRel). input) (map read_rels inputs))
  all_joined [] all = tt
  all_joined (input ∷ inputs) all = appended Q (read_rels input) (flat_map (λ (one : List ReadRel). one) (map read_rels inputs)) all.0 (all_joined inputs all.1)

  level_all : (level : Op-F Op Rel) (number : ℕ) → OwnRead P level number → Inputs AllRels level → AllByRecursion Q (level_rels level number)
  level_all (Op-F.Read source names types filter mask) number own inputs = (k number source names types own, tt)
  level_all (Op-F.Filter input condition) number own inputs = inputs
  level_all (Op-F.Project input exprs) number own inputs = inputs
  level_all (Op-F.Fetch input offset count) number own inputs = inputs
  level_all (Op-F.Sort input keys) number own inputs = inputs
  level_all (Op-F.Aggregate input groups measures) number own inputs = inputs
  level_all (Op-F.GroupSets input groups sets measures) number own inputs = inputs
  level_all (Op-F.Join left right kind on post) number own inputs = appended Q (read_rels right) (read_rels left) inputs.1 inputs.0
  level_all (Op-F.Cross left right) number own inputs = appended Q (read_rels right) (read_rels left) inputs.1 inputs.0
  level_all (Op-F.Set inputs op) number own all = all_joined inputs all

  abbrev Claim : Rel → Type 0
  Claim rel = AllReads P rel → AllRels rel

  relation_all : (rel : Rel) → Inputs Claim (out-Op (out-Rel rel).op) → Claim rel
  relation_all rel claims all =
      let level = out-Rel rel in
      let both = own_and_inputs P rel all in
      let inside = both_inputs Claim (AllReads P) AllRels (out-Op level.op) (λ one claim known. claim known) claims both.1 in
      subst (AllByRecursion Q) (sym (rels_are rel)) (level_all (out-Op level.op) level.number both.0 inside)

  pub rels_from_reads : (rel : Rel) → AllReads P rel → AllByRecursion Q (read_rels rel)
  rels_from_reads = by_inputs Claim relation_all

-- the numbers that are read are those of the read relations
abbrev pub numbers_of_rels : List ReadRel → List ℕ
numbers_of_rels reads = map (λ (read : ReadRel). read.number) reads

abbrev Numbered : Rel → Type 0
Numbered rel = cut_reads_of rel ≡ numbers_of_rels (read_rels rel)

two_numbered : (xs ys : List ℕ) (reads others : List ReadRel) → xs ≡ numbers_of_rels reads → ys ≡ numbers_of_rels others → xs ++ ys ≡ numbers_of_rels (reads ++ others)
two_numbered xs ys reads others first second = ap₂ (λ (a b : List ℕ). a ++ b) first second ∙ sym (map-append (λ (read : ReadRel). read.number) reads others)

all_numbered : (inputs : List Rel) → AllByRecursion Numbered inputs → flat_map cut_reads_of inputs ≡ numbers_of_rels (flat_map (λ (input : List ReadRel). input) (map read_rels inputs))
all_numbered [] all = refl
all_numbered (input ∷ inputs) all = two_numbered (cut_reads_of input) (flat_map cut_reads_of inputs) (read_rels input) (flat_map (λ (one : List ReadRel). one) (map read_rels inputs)) all.0 (all_numbered inputs all.1)

level_numbered : (level : Op-F Op Rel) (number : ℕ) → Inputs Numbered level → cut_level level number ≡ numbers_of_rels (level_rels level number)
level_numbered (Op-F.Read source names types filter mask) number same = refl
level_numbered (Op-F.Filter input condition) number same = same
level_numbered (Op-F.Project input exprs) number same = same
level_numbered (Op-F.Fetch input offset count) number same = same
level_numbered (Op-F.Sort input keys) number same = same
level_numbered (Op-F.Aggregate input groups measures) number same = same
level_numbered (Op-F.GroupSets input groups sets measures) number same = same
level_numbered (Op-F.Join left right kind on post) number same = two_numbered (cut_reads_of right) (cut_reads_of left) (read_rels right) (read_rels left) same.1 same.0
level_numbered (Op-F.Cross left right) number same = two_numbered (cut_reads_of right) (cut_reads_of left) (read_rels right) (read_rels left) same.1 same.0
level_numbered (Op-F.Set inputs op) number same = all_numbered inputs same

relation_numbered : (rel : Rel) → Inputs Numbered (out-Op (out-Rel rel).op) → Numbered rel
relation_numbered rel same =
    let level = out-Rel rel in
    cut_reads_are rel ∙ level_numbered (out-Op level.op) level.number same ∙ sym (ap numbers_of_rels (rels_are rel))

pub law_of_numbers : (rel : Rel) → Numbered rel
law_of_numbers = by_inputs Numbered relation_numbered
