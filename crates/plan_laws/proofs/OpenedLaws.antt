-- Each read relation of a plan has its own table among those that were opened.
use Rattle.std.proofs.Common.{◌≡◌, ◌∙◌, ℕ, ◌≤◌, List, refl, sym, ap, subst}
use Rattle.std.specs.List.{AllByRecursion}
use Rattle.sub_types.specs.Stream.{Stream, each}
use Rattle.plan_typed.specs.declared.sub.Holed.{Holed}
use Rattle.plan_typed.specs.declared.sub.Sub.{Sub}
use Rattle.well_typed.proofs.ValidKinds.{all_both}
use Rattle.well_typed.specs.WellTyped.{IsWellTyped}
use Rattle.plan_denote.specs.Rows.{Row}
use Rattle.plan_denote.specs.Denote.{Tables}
use Rattle.plan_denote.specs.Subqueries.{denote_plan}
use Rattle.plan_reads.specs.declared.reads.Origin.{Origin}
use Rattle.plan_reads.specs.declared.reads.Origin.TheVariants as origins
use Rattle.plan_reads.specs.declared.reads.PlanRead.{PlanRead}
use Rattle.plan_reads.specs.Reads.{reads_of}
use Rattle.table_rows.specs.Read.{read_row}
use Rattle.plan_tables.specs.Tables.{Opened, stream_in, tested_in, found_in, tables_of, tested_tables}
use Rattle.plan_laws.specs.Tested.{IfNamed, IsTestedTable, IsTestedRead, AreTestedIn}
use Rattle.plan_laws.specs.Fitting.{IsFittingTable, IsFittingRead, AreFitting, AreWellKindedIn}
use Rattle.plan_laws.specs.Opened.{AreOpened, HasOwnTable, HasFittingRows}
use Rattle.denote_typed.specs.Kinded.{AreWellKinded}
use Rattle.denote_typed.proofs.RowsLaws.{mapped, weakened}
use Rattle.sub_types.specs.Value.{Fits}
use Rattle.plan_laws.proofs.FitLaws.{law_of_fitting}
use Rattle.plan_laws.proofs.PlanReadLaws.{in_plan}
use Rattle.plan_laws.proofs.NumberLaws.{has_it, reads_with, one_read}
use Rattle.plan_laws.proofs.FoundLaws.{count_by-map, Differ, all_found}
use Rattle.plan_laws.proofs.PlanLaw.{law_of_tested_plans}

abbrev number_of : Opened → ℕ
number_of one = one.read.relation

differ_of : (plan : Holed) (opened : List Opened) → IsWellTyped plan → AreOpened plan opened → Differ number_of opened
differ_of plan opened typed are number =
    subst (λ (count : ℕ). count ≤ 1) (count_by-map (has_it number) (λ (one : Opened). one.read) opened)
    (subst (λ (all : List PlanRead). reads_with number all ≤ 1) (sym are) (one_read number plan typed.numbers))

found_by : (stream : Opened → Stream Row) (opened : List Opened) → Differ number_of opened → AllByRecursion (λ (one : Opened). found_in stream opened one.read.relation ≡ stream one) opened
found_by stream = all_found number_of stream (found_in stream) (λ first rest number. refl)

-- each read relation has its own table
pub own_tables : (plan : Holed) (opened : List Opened) → IsWellTyped plan → AreOpened plan opened → AllByRecursion (HasOwnTable opened) opened
own_tables plan opened typed are =
    let differ = differ_of plan opened typed are in
    all_both (λ (one : Opened). tables_of opened one.read.relation ≡ stream_in one) (λ (one : Opened). tested_tables opened one.read.relation ≡ tested_in one) (HasOwnTable opened) opened
    (λ one rows tested. record { rows = rows; tested = tested }) (found_by stream_in opened differ) (found_by tested_in opened differ)

-- and the one that was tested
tested_is : (one : Opened) → tested_in one ≡ each (read_row one.read.relation one.read.types) (stream_in one)
unfolding tested_in
tested_is one = refl

pub if_named : (claim : Type 0) (origin : Origin) → claim → IfNamed origin claim
if_named claim (origins.Named names) holds = holds
if_named claim (origins.Rows count) holds = tt

-- over tables whose rows fit the read relations of a plan its relations are well kinded
pub law_of_fitting_plans : (tables : Tables) (plan : Holed) → AllByRecursion (IsFittingRead tables) (reads_of plan) → AreWellKindedIn tables plan
law_of_fitting_plans tables plan all =
    let both = in_plan (IsFittingRead tables) plan all in
    record {
      subqueries = weakened (λ (sub : Sub). AreFitting tables sub.rel) (λ (sub : Sub). AreWellKinded tables sub.rel) plan.subs both.0 (λ sub fits. law_of_fitting tables sub.rel fits);
      main = law_of_fitting tables plan.typed.rel both.1;
    }

module _ (plan : Holed) (opened : List Opened) (typed : IsWellTyped plan) (are : AreOpened plan opened) where
  -- what holds of each opened read relation with its own table holds of each read relation of the plan
  by_tables : (P : PlanRead → Type 0) (Q : Opened → Type 0) → ((one : Opened) → HasOwnTable opened one → Q one → P one.read) → AllByRecursion Q opened → AllByRecursion P (reads_of plan)
  by_tables P Q k all =
      subst (AllByRecursion P) are
      (mapped (λ one. P one.read) P (λ (one : Opened). one.read) opened (all_both (HasOwnTable opened) Q (λ one. P one.read) opened k (own_tables plan opened typed are) all) (λ one holds. holds))

  abbrev HasTested : PlanRead → Type 0
  HasTested read = IsTestedTable (tested_tables opened) (tables_of opened) read

  table_tested : (one : Opened) → HasOwnTable opened one → HasTested one.read
  table_tested one own = own.tested ∙ tested_is one ∙ sym (ap (each (read_row one.read.relation one.read.types)) own.rows)

  pub each_tested : AllByRecursion HasTested (reads_of plan)
  each_tested = by_tables HasTested (HasOwnTable opened) (λ one own _. table_tested one own) (own_tables plan opened typed are)

  abbrev IsTested : PlanRead → Type 0
  IsTested read = IsTestedRead (tested_tables opened) (tables_of opened) read

  pub all_tested : AreTestedIn (tested_tables opened) (tables_of opened) plan
  all_tested =
      let both = in_plan IsTested plan (weakened HasTested IsTested (reads_of plan) each_tested (λ read is. if_named (HasTested read) read.origin is)) in
      record { subqueries = both.0; main = both.1 }

  -- so that the plan denotes the same over both
  pub law_of_opened : denote_plan (tested_tables opened) plan ≡ denote_plan (tables_of opened) plan
  law_of_opened = law_of_tested_plans (tested_tables opened) (tables_of opened) plan all_tested

  -- and where the tested rows fit their types the tables are well kinded
  abbrev IsFitting : PlanRead → Type 0
  IsFitting read = IsFittingRead (tested_tables opened) read

  table_fitting : (one : Opened) → HasOwnTable opened one → HasFittingRows one → IsFitting one.read
  table_fitting one own fit =
      if_named (IsFittingTable (tested_tables opened) one.read) one.read.origin (subst (λ (s : Stream Row). AllByRecursion (Fits one.read.types) s.rows) (sym own.tested) fit)

  pub all_well_kinded : AllByRecursion HasFittingRows opened → AreWellKindedIn (tested_tables opened) plan
  all_well_kinded fit = law_of_fitting_plans (tested_tables opened) plan (by_tables IsFitting HasFittingRows table_fitting fit)
