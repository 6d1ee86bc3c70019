-- A relation denotes the same over tables that agree where it reads, and so does a plan.
use Rattle.std.proofs.Common.{◌≡◌, ◌∙◌, ℕ, List, refl, sym, ap}
use Rattle.std.specs.List.{AllByRecursion}
use Rattle.sub_types.specs.Stream.{each}
use Rattle.sub_types.specs.declared.kind.Ty.{Ty}
use Rattle.plan_typed.specs.declared.rel.Rel.{Rel}
use Rattle.plan_typed.specs.declared.sub.Holed.{Holed}
use Rattle.plan_denote.specs.Denote.{Tables, denote}
use Rattle.plan_denote.specs.Subqueries.{denote_plan}
use Rattle.well_typed.proofs.ValidKinds.{all_both}
use Rattle.plan_reads.specs.declared.reads.PlanRead.{PlanRead}
use Rattle.plan_reads.specs.Reads.{reads_in, reads_of}
use Rattle.table_rows.specs.Read.{read_row}
use Rattle.plan_laws.specs.Tested.{IsTestedTable, IsTestedRead, AreTestedIn}
use Rattle.plan_laws.proofs.Levels.{AllReads}
use Rattle.plan_laws.proofs.OpenedLaws.{if_named}
use Rattle.plan_laws.proofs.PlanLaw.{law_of_tested_plans}
use Rattle.plan_laws.proofs.PlanReadLaws.{in_plan}
use Rattle.plan_laws.proofs.TableLaw.{law_of_tested}
use Rattle.agree_laws.specs.Agree.{Agrees, Agree, IsOfTypes}

module _ (types : ℕ → List Ty) (a : Tables) where
  -- the rows of tables, tested by the types that they are read as
  abbrev tested : Tables
  tested number = each (read_row number (types number)) (a number)

  is_tested : (b : Tables) (read : PlanRead) → IsOfTypes types read → Agrees a b read → IsTestedRead tested b read
  is_tested b read own agrees =
      if_named (IsTestedTable tested b read) read.origin
      (ap (λ (one : List Ty). each (read_row read.relation one) (a read.relation)) own ∙ ap (each (read_row read.relation read.types)) agrees)

  module _ (b : Tables) where
    all_tested : (reads : List PlanRead) → AllByRecursion (IsOfTypes types) reads → AllByRecursion (Agrees a b) reads → AllByRecursion (IsTestedRead tested b) reads
    all_tested reads = all_both (IsOfTypes types) (Agrees a b) (IsTestedRead tested b) reads (λ read own agrees. is_tested b read own agrees)

    rel_tested : (rel : Rel) → AllReads (IsOfTypes types) rel → Agree a b rel → denote tested rel ≡ denote b rel
    rel_tested rel own agree = law_of_tested tested b rel (all_tested (reads_in rel) own agree)

    plan_tested : (plan : Holed) → AllByRecursion (IsOfTypes types) (reads_of plan) → AllByRecursion (Agrees a b) (reads_of plan) → denote_plan tested plan ≡ denote_plan b plan
    plan_tested plan own agree =
        let parts = in_plan (IsTestedRead tested b) plan (all_tested (reads_of plan) own agree) in
        law_of_tested_plans tested b plan (record { subqueries = parts.0; main = parts.1 })

itself : (types : ℕ → List Ty) (a : Tables) (reads : List PlanRead) → AllByRecursion (IsOfTypes types) reads → AllByRecursion (Agrees a a) reads
itself types a reads own = all_both (IsOfTypes types) (IsOfTypes types) (Agrees a a) reads (λ read _ _. refl) own own

pub same_rows : (types : ℕ → List Ty) (a b : Tables) (rel : Rel) → AllReads (IsOfTypes types) rel → Agree a b rel → denote a rel ≡ denote b rel
same_rows types a b rel own agree = sym (rel_tested types a a rel own (itself types a (reads_in rel) own)) ∙ rel_tested types a b rel own agree

pub same_plan : (types : ℕ → List Ty) (a b : Tables) (plan : Holed) → AllByRecursion (IsOfTypes types) (reads_of plan) → AllByRecursion (Agrees a b) (reads_of plan) → denote_plan a plan ≡ denote_plan b plan
same_plan types a b plan own agree = sym (plan_tested types a a plan own (itself types a (reads_of plan) own)) ∙ plan_tested types a b plan own agree
