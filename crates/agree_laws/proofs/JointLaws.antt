-- Tables of which some are those of one more relation, and the others those of the relations before it.
use Rattle.std.proofs.Common.{◌≡◌, ◌∙◌, ℕ, ◌+◌, ◌≤◌, List, [], ◌∷◌, ◌++◌, Bool, true, false, cond, map, ◌==◌, refl, sym, ap, subst, arith}
use Rattle.std.specs.Prelude.{if◌then◌else◌}
use Rattle.std.specs.List.{AllByRecursion, flat_map}
use Rattle.std.proofs.lemmas.List.Concat.{flat_map-append}
use Rattle.sub_types.specs.Stream.{Stream}
use Rattle.func_table.proofs.ListLaws.{count_by-cons}
use Rattle.plan_typed.specs.declared.rel.Rel.{Rel}
use Rattle.plan_typed.specs.declared.sub.Holed.{Holed}
use Rattle.plan_typed.specs.declared.sub.Sub.{Sub}
use Rattle.well_typed.specs.WellTyped.{IsWellTyped, numbers_of_subs}
use Rattle.plan_typed.specs.Numbers.{numbers_of}
use Rattle.plan_denote.specs.Denote.{Tables}
use Rattle.plan_denote.specs.Rows.{Row}
use Rattle.plan_reads.specs.declared.reads.PlanRead.{PlanRead}
use Rattle.plan_reads.specs.Reads.{reads_in}
use Rattle.plan_laws.proofs.Levels.{both_parts}
use Rattle.plan_laws.proofs.NumberLaws.{has_it, reads_with, times, is_it, count_both, rel_fewer, subs_fewer}
use Rattle.plan_laws.proofs.FoundLaws.{IsThere, all_there}
use Rattle.agree_laws.specs.Agree.{Agrees, Agree, ReadOnce, joint, rels_of}

module _ (own other : Tables) where
  either : (P : Stream Row → Type 0) (number : ℕ) (rest : Stream Row) (test : Bool) → P (own number) → P rest → P (if test then own number else rest)
  either P number rest true first second = first
  either P number rest false first second = second

  -- what holds of both holds of it
  pub joint_may : (P : ℕ → Stream Row → Type 0) (reads : List PlanRead) (number : ℕ) → P number (own number) → P number (other number) → P number (joint reads own other number)
  joint_may P [] number first second = second
  joint_may P (read ∷ reads) number first second = either (P number) number (joint reads own other number) (read.relation == number) first (joint_may P reads number first second)

  own_if : (number : ℕ) (rest : Stream Row) (test : Bool) (count : ℕ) → 1 ≤ cond test 1 0 + count → (1 ≤ count → rest ≡ own number) → (if test then own number else rest) ≡ own number
  own_if number rest true count some k = refl
  own_if number rest false count some k = k (omega (arith, some))

  pub joint_own : (reads : List PlanRead) (number : ℕ) → 1 ≤ reads_with number reads → joint reads own other number ≡ own number
  joint_own [] number some = absurd (omega (arith, some))
  joint_own (read ∷ reads) number some =
      own_if number (joint reads own other number) (read.relation == number) (reads_with number reads) (omega (arith, some, count_by-cons (has_it number) read reads)) (joint_own reads number)

  other_if : (number : ℕ) (rest : Stream Row) (test : Bool) (count : ℕ) → cond test 1 0 + count ≡ 0 → (count ≡ 0 → rest ≡ other number) → (if test then own number else rest) ≡ other number
  other_if number rest true count none k = absurd (omega (arith, none))
  other_if number rest false count none k = k (omega (arith, none))

  pub joint_other : (reads : List PlanRead) (number : ℕ) → reads_with number reads ≡ 0 → joint reads own other number ≡ other number
  joint_other [] number none = refl
  joint_other (read ∷ reads) number none =
      other_if number (joint reads own other number) (read.relation == number) (reads_with number reads) (omega (arith, none, count_by-cons (has_it number) read reads)) (joint_other reads number)

-- tables that agree with the joint ones agree with each of the two where it is read
module _ (done : List Rel) (rel : Rel) (once : ReadOnce (done ++ rel ∷ [])) (own other t : Tables) where
  abbrev all : Tables
  all = joint (reads_in rel) own other

  apart : (number : ℕ) → reads_with number (flat_map reads_in done) + reads_with number (reads_in rel) ≤ 1
  apart number =
      let parts = flat_map-append reads_in done (rel ∷ []) in
      let none : reads_with number (flat_map reads_in (rel ∷ [])) ≡ reads_with number (reads_in rel) + 0 = count_both (has_it number) (reads_in rel) [] in
      omega (arith, once number, ap (reads_with number) parts, count_both (has_it number) (flat_map reads_in done) (flat_map reads_in (rel ∷ [])), none)

  own_agrees : (read : PlanRead) → IsThere (λ (one : PlanRead). one.relation) (reads_in rel) read → Agrees all t read → Agrees own t read
  own_agrees read there agrees = sym (joint_own own other (reads_in rel) read.relation there) ∙ agrees

  other_agrees : (read : PlanRead) → IsThere (λ (one : PlanRead). one.relation) (flat_map reads_in done) read → Agrees all t read → Agrees other t read
  other_agrees read there agrees = sym (joint_other own other (reads_in rel) read.relation (omega (arith, there, apart read.relation))) ∙ agrees

  each_agrees : (reads : List PlanRead) (P : PlanRead → Type 0) (other_own : Tables) → AllByRecursion P reads → ((read : PlanRead) → P read → Agrees all t read → Agrees other_own t read) → AllByRecursion (Agrees all t) reads
      → AllByRecursion (Agrees other_own t) reads
  each_agrees [] P one there k agree = tt
  each_agrees (read ∷ reads) P one there k agree = (k read there.0 agree.0, each_agrees reads P one there.1 k agree.1)

  pub joint_agrees : AllByRecursion (Agrees all t) (flat_map reads_in (done ++ rel ∷ [])) → AllByRecursion (Agrees other t) (flat_map reads_in done) × Agree own t rel
  joint_agrees agree =
      let parts = both_parts (Agrees all t) (flat_map reads_in done) (flat_map reads_in (rel ∷ [])) (subst (AllByRecursion (Agrees all t)) (flat_map-append reads_in done (rel ∷ [])) agree) in
      let own_part = both_parts (Agrees all t) (reads_in rel) [] parts.1 in (
        each_agrees (flat_map reads_in done) (IsThere (λ (one : PlanRead). one.relation) (flat_map reads_in done)) other (all_there (λ (one : PlanRead). one.relation) (flat_map reads_in done)) other_agrees parts.0,
        each_agrees (reads_in rel) (IsThere (λ (one : PlanRead). one.relation) (reads_in rel)) own (all_there (λ (one : PlanRead). one.relation) (reads_in rel)) own_agrees own_part.0,
      )

flat : (subs : List Sub) → flat_map reads_in (rels_of subs) ≡ flat_map (λ (sub : Sub). reads_in sub.rel) subs
flat [] = refl
flat (sub ∷ subs) = ap (λ (rest : List PlanRead). reads_in sub.rel ++ rest) (flat subs)

few : (a b c d e f : ℕ) → a ≡ b + c → b ≤ d → c ≤ e → f ≡ e + d → f ≤ 1 → a ≤ 1
few a b c d e f split h k whole most = omega (arith, split, h, k, whole, most)

-- in a well-typed plan each number is read once
pub read_once : (plan : Holed) → IsWellTyped plan → ReadOnce (rels_of plan.subs ++ plan.typed.rel ∷ [])
read_once plan typed number =
    let main = plan.typed.rel in
    let subs = plan.subs in
    let parts = ap (reads_with number) (flat_map-append reads_in (rels_of subs) (main ∷ [])) ∙ count_both (has_it number) (flat_map reads_in (rels_of subs)) (flat_map reads_in (main ∷ [])) in
    let last : reads_with number (flat_map reads_in (main ∷ [])) ≤ times number (numbers_of main) = omega (arith, count_both (has_it number) (reads_in main) [], rel_fewer number main) in
    few _ (reads_with number (flat_map reads_in (rels_of subs))) (reads_with number (flat_map reads_in (main ∷ []))) (times number (numbers_of_subs subs)) (times number (numbers_of main)) (times number (numbers_of main ++ numbers_of_subs subs))
    parts (subst (λ (reads : List PlanRead). reads_with number reads ≤ times number (numbers_of_subs subs)) (sym (flat subs)) (subs_fewer number subs)) last
    (count_both (is_it number) (numbers_of main) (numbers_of_subs subs)) (typed.numbers number)

-- and among the first of several relations
pub once_before : (rels more : List Rel) → ReadOnce (rels ++ more) → ReadOnce rels
once_before rels more once number =
    omega (arith, once number, ap (reads_with number) (flat_map-append reads_in rels more), count_both (has_it number) (flat_map reads_in rels) (flat_map reads_in more))
