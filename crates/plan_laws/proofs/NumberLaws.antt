-- No number stands twice among the read relations of a well-typed plan.
use Rattle.std.proofs.Common.{◌≡◌, ◌∙◌, ℕ, ◌+◌, ◌≤◌, List, [], ◌∷◌, ◌++◌, Bool, true, false, cond, ◌==◌, map, count_by, refl, sym, ap, subst, arith}
use Rattle.std.specs.List.{AllByRecursion, flat_map, concat}
use Rattle.std.specs.declared.cmp.Ordering.{Ordering}
use Rattle.std.specs.Ordering.{is_gt}
use Rattle.std.proofs.lemmas.List.Sums.{sum_by-append}
use Rattle.func_table.proofs.ListLaws.{count_by-cons}
use Rattle.plan_typed.specs.Numbers.{op_numbers, numbers_of}
use Rattle.plan_typed.specs.declared.rel.Op.{Op, out-Op, roll-out-Op, map-Op, fold-Op}
use Rattle.plan_typed.specs.declared.rel.Op.TheOpen.{Op-F}
use Rattle.plan_typed.specs.declared.rel.Rel.{Rel, out-Rel, roll-out-Rel}
use Rattle.plan_typed.specs.declared.sub.Holed.{Holed}
use Rattle.plan_typed.specs.declared.sub.Sub.{Sub}
use Rattle.well_typed.proofs.MadeRel.{numbers_made}
use Rattle.well_typed.specs.WellTyped.{AllDiffer, numbers_of_subs}
use Rattle.plan_denote.specs.Sort.{placed, arranged}
use Rattle.denote_typed.proofs.Law.{Inputs}
use Rattle.plan_reads.specs.declared.reads.PlanRead.{PlanRead}
use Rattle.plan_reads.specs.Reads.{read_of, reads_in, by_relation, reads_of}
use Rattle.plan_laws.proofs.Levels.{by_inputs, level_reads, reads_are}

-- how many pass a test, in lists one after the other and in order
module _ {A : Type 0} (p : A → Bool) where
  pub count_both : (xs ys : List A) → count_by p (xs ++ ys) ≡ count_by p xs + count_by p ys
  count_both xs ys = sum_by-append (λ x. cond (p x) 1 0) xs ys

  count_more : (x : A) (xs : List A) → count_by p xs ≤ count_by p (x ∷ xs)
  count_more x xs = omega (arith, count_by-cons p x xs)

  module _ (cmp : A → A → Ordering) where
    placed_by : (x y : A) (ys : List A) (test : Bool) → count_by p (placed cmp x ys) ≡ count_by p (x ∷ ys) → count_by p (cond test (y ∷ placed cmp x ys) (x ∷ y ∷ ys)) ≡ count_by p (x ∷ y ∷ ys)
    placed_by x y ys true same = omega (arith, same, count_by-cons p y (placed cmp x ys), count_by-cons p x ys, count_by-cons p x (y ∷ ys), count_by-cons p y ys)
    placed_by x y ys false same = refl

    placed_count : (x : A) (ys : List A) → count_by p (placed cmp x ys) ≡ count_by p (x ∷ ys)
    placed_count x [] = refl
    placed_count x (y ∷ ys) = placed_by x y ys (is_gt (cmp x y)) (placed_count x ys)

    arranged_count : (xs : List A) → count_by p (arranged cmp xs) ≡ count_by p xs
    arranged_count [] = refl
    arranged_count (x ∷ xs) = omega (arith, placed_count x (arranged cmp xs), count_by-cons p x (arranged cmp xs), count_by-cons p x xs, arranged_count xs)

-- two parts that are each at most as many
sums : (a b c d x y : ℕ) → x ≡ a + b → y ≡ c + d → a ≤ c → b ≤ d → x ≤ y
sums a b c d x y first second h k = omega (arith, first, second, h, k)

at_most : (x y : ℕ) → x ≡ y → x ≤ y
at_most x y same = omega (arith, same)

at_most_trans : (x y z : ℕ) → x ≤ y → y ≤ z → x ≤ z
at_most_trans x y z h k = omega (arith, h, k)

at_most_sum : (x y a b c d : ℕ) → x ≡ a + b → y ≡ d + c → a ≤ c → b ≤ d → y ≤ 1 → x ≤ 1
at_most_sum x y a b c d first second h k few = omega (arith, first, second, h, k, few)

-- the numbers in the inputs of what a relation does
abbrev inner : Op-F Op Rel → List ℕ
inner level = op_numbers (map-Op Op Rel (List ℕ) (List ℕ) (fold-Op (List ℕ) (List ℕ) op_numbers (λ rel. rel.number ∷ rel.op)) numbers_of level)

numbers_are : (rel : Rel) → numbers_of rel ≡ (out-Rel rel).number ∷ inner (out-Op (out-Rel rel).op)
numbers_are rel =
    let level = out-Rel rel in
    ap numbers_of (sym (roll-out-Rel rel)) ∙ numbers_made level.number level.op level.emit level.columns (out-Op level.op) (roll-out-Op level.op)

module _ (number : ℕ) where
  -- how many of these read relations have the number, and how often it stands among these
  abbrev pub has_it : PlanRead → Bool
  has_it read = read.relation == number

  abbrev pub reads_with : List PlanRead → ℕ
  reads_with reads = count_by has_it reads

  abbrev pub is_it : ℕ → Bool
  is_it one = one == number

  abbrev pub times : List ℕ → ℕ
  times numbers = count_by is_it numbers

  abbrev pub IsFewer : Rel → Type 0
  IsFewer rel = reads_with (reads_in rel) ≤ times (numbers_of rel)

  both_fewer : (left right : Rel) → IsFewer left → IsFewer right → reads_with (reads_in left ++ reads_in right) ≤ times (numbers_of left ++ numbers_of right)
  both_fewer left right h k =
      sums (reads_with (reads_in left)) (reads_with (reads_in right)) (times (numbers_of left)) (times (numbers_of right)) _ _
      (count_both has_it (reads_in left) (reads_in right)) (count_both is_it (numbers_of left) (numbers_of right)) h k

  each_fewer : (inputs : List Rel) → AllByRecursion IsFewer inputs → reads_with (flat_map reads_in inputs) ≤ times (concat (map numbers_of inputs))
  each_fewer [] all = omega arith
  each_fewer (input ∷ inputs) all =
      sums (reads_with (reads_in input)) (reads_with (flat_map reads_in inputs)) (times (numbers_of input)) (times (concat (map numbers_of inputs))) _ _
      (count_both has_it (reads_in input) (flat_map reads_in inputs)) (count_both is_it (numbers_of input) (concat (map numbers_of inputs))) all.0 (each_fewer inputs all.1)

  with_own : (own : ℕ) (reads : List PlanRead) (numbers : List ℕ) → reads_with reads ≤ times numbers → reads_with reads ≤ times (own ∷ numbers)
  with_own own reads numbers h = at_most_trans (reads_with reads) (times numbers) (times (own ∷ numbers)) h (count_more is_it own numbers)

  level_fewer : (level : Op-F Op Rel) (own : ℕ) → Inputs IsFewer level → reads_with (level_reads level own) ≤ times (own ∷ inner level)
  level_fewer (Op-F.Read source names types filter mask) own h =
      at_most (reads_with (read_of own source names types ∷ [])) (times (own ∷ [])) (count_by-cons has_it (read_of own source names types) [] ∙ sym (count_by-cons is_it own []))
  level_fewer (Op-F.Filter input condition) own h = with_own own (reads_in input) (numbers_of input) h
  level_fewer (Op-F.Project input exprs) own h = with_own own (reads_in input) (numbers_of input) h
  level_fewer (Op-F.Fetch input offset count) own h = with_own own (reads_in input) (numbers_of input) h
  level_fewer (Op-F.Sort input keys) own h = with_own own (reads_in input) (numbers_of input) h
  level_fewer (Op-F.Aggregate input groups measures) own h = with_own own (reads_in input) (numbers_of input) h
  level_fewer (Op-F.GroupSets input groups sets measures) own h = with_own own (reads_in input) (numbers_of input) h
  level_fewer (Op-F.Join left right kind on post) own h = with_own own (reads_in left ++ reads_in right) (numbers_of left ++ numbers_of right) (both_fewer left right h.0 h.1)
  level_fewer (Op-F.Cross left right) own h = with_own own (reads_in left ++ reads_in right) (numbers_of left ++ numbers_of right) (both_fewer left right h.0 h.1)
  level_fewer (Op-F.Set inputs op) own h = with_own own (flat_map reads_in inputs) (concat (map numbers_of inputs)) (each_fewer inputs h)

  relation_fewer : (rel : Rel) → Inputs IsFewer (out-Op (out-Rel rel).op) → IsFewer rel
  relation_fewer rel h =
      let level = out-Rel rel in
      let reads = level_reads (out-Op level.op) level.number in
      subst (λ (one : List PlanRead). reads_with one ≤ times (numbers_of rel)) (sym (reads_are rel))
      (subst (λ (numbers : List ℕ). reads_with reads ≤ times numbers) (sym (numbers_are rel)) (level_fewer (out-Op level.op) level.number h))

  -- a relation has no more read relations of a number than relations
  pub rel_fewer : (rel : Rel) → reads_with (reads_in rel) ≤ times (numbers_of rel)
  rel_fewer = by_inputs IsFewer relation_fewer

  pub subs_fewer : (subs : List Sub) → reads_with (flat_map (λ (sub : Sub). reads_in sub.rel) subs) ≤ times (numbers_of_subs subs)
  subs_fewer [] = omega arith
  subs_fewer (sub ∷ subs) =
      let rest = flat_map (λ (one : Sub). reads_in one.rel) subs in
      sums (reads_with (reads_in sub.rel)) (reads_with rest) (times (numbers_of sub.rel)) (times (numbers_of_subs subs)) _ _
      (count_both has_it (reads_in sub.rel) rest) (count_both is_it (numbers_of sub.rel) (numbers_of_subs subs)) (rel_fewer sub.rel) (subs_fewer subs)

  -- at most one read relation of a plan has the number
  pub one_read : (plan : Holed) → AllDiffer (numbers_of plan.typed.rel ++ numbers_of_subs plan.subs) → reads_with (reads_of plan) ≤ 1
  unfolding reads_of
  one_read plan differ =
      let main = plan.typed.rel in
      let reads = flat_map (λ (sub : Sub). reads_in sub.rel) plan.subs in
      at_most_sum (reads_with (arranged by_relation (reads ++ reads_in main))) (times (numbers_of main ++ numbers_of_subs plan.subs))
      (reads_with reads) (reads_with (reads_in main)) (times (numbers_of_subs plan.subs)) (times (numbers_of main))
      (arranged_count has_it by_relation (reads ++ reads_in main) ∙ count_both has_it reads (reads_in main)) (count_both is_it (numbers_of main) (numbers_of_subs plan.subs)) (subs_fewer plan.subs) (rel_fewer main) (differ number)
