-- The numbers of relations, and what read relations are read as, don't change where the values of subqueries are put in.
use Rattle.std.proofs.Common.{◌≡◌, ◌∙◌, ℕ, List, [], ◌∷◌, ◌++◌, Option, map, refl, sym, ap, ap₂, subst}
use Rattle.std.proofs.lemmas.List.{map-append}
use Rattle.std.specs.List.{AllByRecursion, concat, flat_map}
use Rattle.plan_typed.specs.declared.rel.Op.{Op, out-Op, roll-Op, out-roll-Op, roll-out-Op, map-Op, fold-Op, fold-roll-Op}
use Rattle.plan_typed.specs.declared.rel.Op.TheFolds.{ind-Rel}
use Rattle.plan_typed.specs.declared.rel.Op.TheOpen.{Op-F}
use Rattle.plan_typed.specs.declared.rel.Rel.{Rel, Rel-F, out-Rel, roll-Rel, out-roll-Rel, roll-out-Rel, map-Rel, fold-roll-Rel}
use Rattle.plan_typed.specs.Numbers.{op_numbers, numbers_of}
use Rattle.well_typed.proofs.ValidKinds.{With}
use Rattle.plan_denote.specs.Holes.{Worth, Known, worth_at, filled_op, filled_rel, filled}
use Rattle.denote_typed.proofs.FillOpLaws.{new_op}
use Rattle.denote_typed.proofs.Law.{Inputs, held_inputs}
use Rattle.read_laws.specs.Typed.{read_as, reads_as, StaysAsRead}
use Rattle.cut_laws.specs.Found.{ReadRel, op_read_rels, rel_read_rels, read_rels, read_rels_of_op}

abbrev numbers_of_op : Op → List ℕ
numbers_of_op = fold-Op (List ℕ) (List ℕ) op_numbers (λ rel. rel.number ∷ rel.op)

-- one level of the numbers, and of the read relations
abbrev level_numbers : Op-F Op Rel → List ℕ
level_numbers level = op_numbers (map-Op Op Rel (List ℕ) (List ℕ) numbers_of_op numbers_of level)

abbrev level_reads : Op-F Op Rel → ℕ → List ReadRel
level_reads level number = op_read_rels (map-Op Op Rel (ℕ → List ReadRel) (List ReadRel) read_rels_of_op read_rels level) number

numbers_of_level : (level : Op-F Op Rel) → numbers_of_op (roll-Op level) ≡ level_numbers level
numbers_of_level level = fold-roll-Op (List ℕ) (List ℕ) op_numbers (λ rel. rel.number ∷ rel.op) level

numbers_of_rolled : (level : Rel-F Op Rel) → numbers_of (roll-Rel level) ≡ level.number ∷ numbers_of_op level.op
numbers_of_rolled level = fold-roll-Rel (List ℕ) (List ℕ) op_numbers (λ rel. rel.number ∷ rel.op) level

reads_of_level : (level : Op-F Op Rel) (number : ℕ) → read_rels_of_op (roll-Op level) number ≡ level_reads level number
unfolding read_rels read_rels_of_op
reads_of_level level number = ap (λ (reads : ℕ → List ReadRel). reads number) (fold-roll-Op (ℕ → List ReadRel) (List ReadRel) op_read_rels rel_read_rels level)

reads_of_rolled : (level : Rel-F Op Rel) → read_rels (roll-Rel level) ≡ read_rels_of_op level.op level.number
unfolding read_rels read_rels_of_op
reads_of_rolled level = fold-roll-Rel (ℕ → List ReadRel) (List ReadRel) op_read_rels rel_read_rels level

module _ (known : Known) where
  -- a relation with the values put in, by one level
  abbrev fill_op : Op → (ℕ → Option Worth) → Op
  fill_op op = fold-Op ((ℕ → Option Worth) → Op) Rel filled_op (filled_rel known) op

  op_levels : (k : ℕ → Option Worth) (level : Op-F Op Rel) → filled_op (map-Op Op Rel ((ℕ → Option Worth) → Op) Rel fill_op (filled known) level) k ≡ roll-Op (new_op k known level)
  unfolding filled
  op_levels k (Op-F.Read source names types filter mask) = refl
  op_levels k (Op-F.Filter input condition) = refl
  op_levels k (Op-F.Project input exprs) = refl
  op_levels k (Op-F.Fetch input offset count) = refl
  op_levels k (Op-F.Sort input keys) = refl
  op_levels k (Op-F.Aggregate input groups measures) = refl
  op_levels k (Op-F.GroupSets input groups sets measures) = refl
  op_levels k (Op-F.Join left right kind on post) = refl
  op_levels k (Op-F.Cross left right) = refl
  op_levels k (Op-F.Set inputs op) = refl

  filled_op_is : (op : Op) (k : ℕ → Option Worth) → fill_op op k ≡ roll-Op (new_op k known (out-Op op))
  unfolding filled
  filled_op_is op k =
      ap (λ one. fill_op one k) (sym (roll-out-Op op)) ∙ ap (λ (one : (ℕ → Option Worth) → Op). one k) (fold-roll-Op ((ℕ → Option Worth) → Op) Rel filled_op (filled_rel known) (out-Op op)) ∙ op_levels k (out-Op op)

  abbrev new_rel : Rel-F Op Rel → Rel-F Op Rel
  new_rel rel = record { number = rel.number; op = roll-Op (new_op (worth_at known rel.number) known (out-Op rel.op)); emit = rel.emit; columns = rel.columns }

  filled_is : (rel : Rel) → filled known rel ≡ roll-Rel (new_rel (out-Rel rel))
  unfolding filled
  filled_is rel =
      let level = out-Rel rel in
      ap (filled known) (sym (roll-out-Rel rel)) ∙ fold-roll-Rel ((ℕ → Option Worth) → Op) Rel filled_op (filled_rel known) level
      ∙ ap (λ (op : Op). roll-Rel (record { number = level.number; op = op; emit = level.emit; columns = level.columns })) (filled_op_is level.op (worth_at known level.number))

  abbrev IsAlike : Rel → Type 0
  IsAlike rel = StaysAsRead known rel

  all_numbers : (inputs : List Rel) → AllByRecursion IsAlike inputs → concat (map numbers_of (map (filled known) inputs)) ≡ concat (map numbers_of inputs)
  all_numbers [] all = refl
  all_numbers (input ∷ inputs) all = ap₂ (λ one more. one ++ more) all.0.numbers (all_numbers inputs all.1)

  two_reads : (a b c d : List ReadRel) → map read_as a ≡ map read_as c → map read_as b ≡ map read_as d → map read_as (a ++ b) ≡ map read_as (c ++ d)
  two_reads a b c d first second = map-append read_as a b ∙ ap₂ (λ one more. one ++ more) first second ∙ sym (map-append read_as c d)

  all_reads : (inputs : List Rel) → AllByRecursion IsAlike inputs
      → map read_as (flat_map (λ (input : List ReadRel). input) (map read_rels (map (filled known) inputs))) ≡ map read_as (flat_map (λ (input : List ReadRel). input) (map read_rels inputs))
  all_reads [] all = refl
  all_reads (input ∷ inputs) all =
      two_reads (read_rels (filled known input)) (flat_map (λ (one : List ReadRel). one) (map read_rels (map (filled known) inputs))) (read_rels input) (flat_map (λ (one : List ReadRel). one) (map read_rels inputs)) all.0.reads (all_reads inputs all.1)

  numbers_same : (k : ℕ → Option Worth) (level : Op-F Op Rel) → Inputs IsAlike level → level_numbers (new_op k known level) ≡ level_numbers level
  numbers_same k (Op-F.Read source names types filter mask) h = refl
  numbers_same k (Op-F.Filter input condition) h = h.numbers
  numbers_same k (Op-F.Project input exprs) h = h.numbers
  numbers_same k (Op-F.Fetch input offset count) h = h.numbers
  numbers_same k (Op-F.Sort input keys) h = h.numbers
  numbers_same k (Op-F.Aggregate input groups measures) h = h.numbers
  numbers_same k (Op-F.GroupSets input groups sets measures) h = h.numbers
  numbers_same k (Op-F.Join left right kind on post) h = ap₂ (λ one more. one ++ more) h.0.numbers h.1.numbers
  numbers_same k (Op-F.Cross left right) h = ap₂ (λ one more. one ++ more) h.0.numbers h.1.numbers
  numbers_same k (Op-F.Set inputs op) h = all_numbers inputs h

  reads_same : (k : ℕ → Option Worth) (level : Op-F Op Rel) (number : ℕ) → Inputs IsAlike level → map read_as (level_reads (new_op k known level) number) ≡ map read_as (level_reads level number)
  reads_same k (Op-F.Read source names types filter mask) number h = refl
  reads_same k (Op-F.Filter input condition) number h = h.reads
  reads_same k (Op-F.Project input exprs) number h = h.reads
  reads_same k (Op-F.Fetch input offset count) number h = h.reads
  reads_same k (Op-F.Sort input keys) number h = h.reads
  reads_same k (Op-F.Aggregate input groups measures) number h = h.reads
  reads_same k (Op-F.GroupSets input groups sets measures) number h = h.reads
  reads_same k (Op-F.Join left right kind on post) number h = two_reads (read_rels (filled known right)) (read_rels (filled known left)) (read_rels right) (read_rels left) h.1.reads h.0.reads
  reads_same k (Op-F.Cross left right) number h = two_reads (read_rels (filled known right)) (read_rels (filled known left)) (read_rels right) (read_rels left) h.1.reads h.0.reads
  reads_same k (Op-F.Set inputs op) number h = all_reads inputs h

  abbrev OpClaim : Op → Type 0
  OpClaim op = Inputs IsAlike (out-Op op)

  op_alike : (x : Op-F Op Rel) (y : Op-F (With OpClaim) (With IsAlike)) → map-Op (With OpClaim) (With IsAlike) Op Rel (λ e. e.0) (λ e. e.0) y ≡ x → OpClaim (roll-Op x)
  op_alike x y is = subst (Inputs IsAlike) (is ∙ sym (out-roll-Op x)) (held_inputs OpClaim IsAlike y)

  by_level : (rel : Rel) (level : Rel-F Op Rel) → out-Rel rel ≡ level → Inputs IsAlike (out-Op level.op) → IsAlike rel
  by_level rel level is inputs =
      let new = new_op (worth_at known level.number) known (out-Op level.op) in
      let made : filled known rel ≡ roll-Rel (new_rel level) = filled_is rel ∙ ap (λ (one : Rel-F Op Rel). roll-Rel (new_rel one)) is in
      let whole : roll-Rel level ≡ rel = ap roll-Rel (sym is) ∙ roll-out-Rel rel in
      record {
        numbers =
            ap numbers_of made ∙ numbers_of_rolled (new_rel level) ∙ ap (λ numbers. level.number ∷ numbers) (numbers_of_level new ∙ numbers_same (worth_at known level.number) (out-Op level.op) inputs ∙ sym (numbers_of_level (out-Op level.op)) ∙ ap numbers_of_op (roll-out-Op level.op))
            ∙ sym (numbers_of_rolled level) ∙ ap numbers_of whole;
        reads =
            ap reads_as made ∙ ap (map read_as) (reads_of_rolled (new_rel level) ∙ reads_of_level new level.number) ∙ reads_same (worth_at known level.number) (out-Op level.op) level.number inputs
            ∙ ap (map read_as) (sym (reads_of_level (out-Op level.op) level.number) ∙ ap (λ op. read_rels_of_op op level.number) (roll-out-Op level.op) ∙ sym (reads_of_rolled level)) ∙ ap reads_as whole;
      }

  rel_alike : (x : Rel-F Op Rel) (y : Rel-F (With OpClaim) (With IsAlike)) → map-Rel (With OpClaim) (With IsAlike) Op Rel (λ e. e.0) (λ e. e.0) y ≡ x → IsAlike (roll-Rel x)
  rel_alike x y is =
      let claim : OpClaim x.op = subst (λ (l : Rel-F Op Rel). OpClaim l.op) is y.op.1 in
      by_level (roll-Rel x) x (out-roll-Rel x) claim

  pub filled_alike : (rel : Rel) → StaysAsRead known rel
  filled_alike = ind-Rel OpClaim IsAlike op_alike rel_alike
