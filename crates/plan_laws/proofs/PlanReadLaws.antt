-- What holds of each read relation of a plan holds of each of its relations and subqueries, and the other way round.
use Rattle.std.proofs.Common.{List, [], ◌∷◌, ◌++◌, Bool, true, false, cond}
use Rattle.std.specs.List.{AllByRecursion, flat_map}
use Rattle.std.specs.declared.cmp.Ordering.{Ordering}
use Rattle.std.specs.Ordering.{is_gt}
use Rattle.plan_typed.specs.declared.sub.Holed.{Holed}
use Rattle.plan_typed.specs.declared.sub.Sub.{Sub}
use Rattle.plan_denote.specs.Sort.{placed, arranged}
use Rattle.plan_reads.specs.declared.reads.PlanRead.{PlanRead}
use Rattle.plan_reads.specs.Reads.{reads_in, by_relation, reads_of}
use Rattle.plan_laws.proofs.Levels.{AllReads, both_parts, each_part, both_joined, each_joined}

-- what holds of each item holds of each in order
module _ {A : Type 0} (P : A → Type 0) (cmp : A → A → Ordering) where
  placed_by : (x y : A) (ys : List A) (test : Bool) → P x → AllByRecursion P (y ∷ ys) → AllByRecursion P (placed cmp x ys) → AllByRecursion P (cond test (y ∷ placed cmp x ys) (x ∷ y ∷ ys))
  placed_by x y ys true holds all ih = (all.0, ih)
  placed_by x y ys false holds all ih = (holds, all)

  placed_all : (x : A) (ys : List A) → P x → AllByRecursion P ys → AllByRecursion P (placed cmp x ys)
  placed_all x [] holds all = (holds, tt)
  placed_all x (y ∷ ys) holds all = placed_by x y ys (is_gt (cmp x y)) holds all (placed_all x ys holds all.1)

  pub arranged_all : (xs : List A) → AllByRecursion P xs → AllByRecursion P (arranged cmp xs)
  arranged_all [] all = tt
  arranged_all (x ∷ xs) all = placed_all x (arranged cmp xs) all.0 (arranged_all xs all.1)

  -- and the other way round
  unplaced_by : (x y : A) (ys : List A) (test : Bool) → AllByRecursion P (cond test (y ∷ placed cmp x ys) (x ∷ y ∷ ys)) → (AllByRecursion P (placed cmp x ys) → P x × AllByRecursion P ys) → P x × AllByRecursion P (y ∷ ys)
  unplaced_by x y ys true all ih = let rest = ih all.1 in (rest.0, (all.0, rest.1))
  unplaced_by x y ys false all ih = all

  unplaced : (x : A) (ys : List A) → AllByRecursion P (placed cmp x ys) → P x × AllByRecursion P ys
  unplaced x [] all = all
  unplaced x (y ∷ ys) all = unplaced_by x y ys (is_gt (cmp x y)) all (unplaced x ys)

  pub unarranged_all : (xs : List A) → AllByRecursion P (arranged cmp xs) → AllByRecursion P xs
  unarranged_all [] all = tt
  unarranged_all (x ∷ xs) all = let both = unplaced x (arranged cmp xs) all in (both.0, unarranged_all xs both.1)

-- those of a plan, by those of its subqueries and of its main relation
module _ (P : PlanRead → Type 0) (plan : Holed) where
  abbrev pub OfSubs : Type 0
  OfSubs = AllByRecursion (λ (sub : Sub). AllReads P sub.rel) plan.subs

  abbrev of_subs : List PlanRead
  of_subs = flat_map (λ (sub : Sub). reads_in sub.rel) plan.subs

  pub of_plan : OfSubs → AllReads P plan.typed.rel → AllByRecursion P (reads_of plan)
  unfolding reads_of
  of_plan subs main = arranged_all P by_relation (of_subs ++ reads_in plan.typed.rel) (both_joined P of_subs (reads_in plan.typed.rel) (each_joined P (λ (sub : Sub). reads_in sub.rel) plan.subs subs) main)

  pub in_plan : AllByRecursion P (reads_of plan) → OfSubs × AllReads P plan.typed.rel
  unfolding reads_of
  in_plan all =
      let both = both_parts P of_subs (reads_in plan.typed.rel) (unarranged_all P by_relation (of_subs ++ reads_in plan.typed.rel) all) in
      (each_part P (λ (sub : Sub). reads_in sub.rel) plan.subs both.0, both.1)
