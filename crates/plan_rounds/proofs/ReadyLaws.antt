-- A relation of a plan may be run over open files once the values of the earlier subqueries are put in.
use Rattle.std.proofs.Common.{◌≡◌, ℕ, ◌+◌, ◌<◌, List, [], ◌∷◌, ◌++◌, Bool, cond, ◌==◌, count_by, Result, Ok, IfOk, drop, get_or, length, sym, ap, ◌∙◌, subst, arith}
use Rattle.std.specs.List.{AllByRecursion, AllZip}
use Rattle.std.proofs.lemmas.List.{drop_more, map_push}
use Rattle.std.proofs.lemmas.List.Sums.{sum_by-append}
use Rattle.sub_types.specs.Stream.{Stream}
use Rattle.sub_types.specs.Value.{Fits}
use Rattle.sub_types.specs.declared.fault.Fault.{Fault}
use Rattle.sub_types.specs.declared.kind.Ty.{Ty}
use Rattle.plan_typed.specs.declared.rel.Rel.{Rel}
use Rattle.plan_typed.specs.declared.sub.Hole.{Hole}
use Rattle.plan_typed.specs.declared.sub.Holed.{Holed}
use Rattle.plan_typed.specs.declared.sub.Sub.{Sub}
use Rattle.plan_typed.specs.Numbers.{numbers_of}
use Rattle.plan_typed.specs.Types.{columns_of}
use Rattle.well_typed.specs.WellTyped.{AreTyped, AllDiffer, numbers_of_subs, IsTypedSub, IsWellTyped}
use Rattle.well_typed.proofs.ValidColumns.{typed_columns}
use Rattle.well_typed.proofs.ValidKinds.{all_both}
use Rattle.plan_denote.specs.Holes.{Worth, Known, filled}
use Rattle.plan_denote.specs.Rows.{Row}
use Rattle.plan_denote.specs.Subqueries.{worth_of, worth_of_stream}
use Rattle.denote_typed.specs.Holes.{AwaitsIn, AwaitsAt, AreAwaited}
use Rattle.denote_typed.proofs.FillRelLaws.{Every, every_both, IsTakenBy, filled_typed}
use Rattle.denote_typed.proofs.PlanLaw.{more, none_known, level_more, Goes, worth_goes, unless_goes}
use Rattle.read_laws.proofs.FillLaws.{filled_alike}
use Rattle.plan_reads.specs.Reads.{reads_of}
use Rattle.plan_laws.proofs.FilledLaws.{reads_filled}
use Rattle.plan_laws.proofs.Levels.{AllReads}
use Rattle.plan_laws.proofs.PlanReadLaws.{in_plan}
use Rattle.sub_query.specs.Known.{known_seen, worth_seen}
use Rattle.sub_query.specs.declared.worth.KnownWorth.{KnownWorth}
use Rattle.agree_laws.specs.Agree.{IsOfTypes, types_in}
use Rattle.agree_laws.proofs.TypeLaws.{each_of_types}
use Rattle.open_blocks.specs.Files.{FilesSeen}
use Rattle.plan_rounds.specs.Inputs.{IsOpenRead}
use Rattle.plan_rounds.specs.Ready.{IsReady}
use Rattle.plan_rounds.proofs.OpenLaws.{IsOpenAs, open_as, all_open}

-- how many numbers pass a test, in two lists one after the other
count_both : (p : ℕ → Bool) (xs ys : List ℕ) → count_by p (xs ++ ys) ≡ count_by p xs + count_by p ys
count_both p xs ys = sum_by-append (λ x. cond (p x) 1 0) xs ys

-- numbers that differ differ in each part
first_differ : (xs ys : List ℕ) → AllDiffer (xs ++ ys) → AllDiffer xs
first_differ xs ys differ number = omega (arith, differ number, count_both (λ one. one == number) xs ys)

second_differ : (xs ys : List ℕ) → AllDiffer (xs ++ ys) → AllDiffer ys
second_differ xs ys differ number = omega (arith, differ number, count_both (λ one. one == number) xs ys)

subs_differ : (subs : List Sub) → AllDiffer (numbers_of_subs subs) → AllByRecursion (λ (sub : Sub). AllDiffer (numbers_of sub.rel)) subs
subs_differ [] differ = tt
subs_differ (sub ∷ subs) differ =
    (first_differ (numbers_of sub.rel) (numbers_of_subs subs) differ, subs_differ subs (second_differ (numbers_of sub.rel) (numbers_of_subs subs) differ))

-- what a subquery is worth by rows that fit its columns may go wherever it is awaited
pub goes : (sub : Sub) (worth : Worth) (s : Stream Row) → AreTyped sub.rel → AllByRecursion (Fits (columns_of sub.rel)) s.rows → Ok worth ≡ worth_of_stream sub s → Goes sub.kind (columns_of sub.rel) worth
goes sub worth s typed fit is =
    subst (λ (found : Result Worth Fault). IfOk found (Goes sub.kind (columns_of sub.rel))) (sym is)
    (unless_goes (Goes sub.kind (columns_of sub.rel)) s.end (worth_of sub.rel sub.kind s.rows) (worth_goes sub.rel sub.kind s.rows (typed_columns sub.rel typed) fit))

module _ (types : ℕ → List Ty) where
  -- a relation of a plan that may be run once what is known is put in
  pub record IsRunnable (known : Known) (rel : Rel) : Type 0 where
    pub typed : AreTyped rel
    pub numbers : AllDiffer (numbers_of rel)
    pub reads : AllReads (IsOfTypes types) rel
    pub taken : Every (IsTakenBy known) rel

  -- it still reads what it read
  pub reads_stay : (known : Known) (rel : Rel) → AllReads (IsOfTypes types) rel → AllReads (IsOfTypes types) (filled known rel)
  reads_stay known rel own = subst (AllByRecursion (IsOfTypes types)) (sym (reads_filled known rel)) own

  pub is_ready : (known : Known) (rel : Rel) (files : List FilesSeen) → AllByRecursion (IsOpenAs types) files → IsRunnable known rel → IsReady (filled known rel) files
  is_ready known rel files opened runs = record {
    typed = filled_typed known rel runs.typed runs.taken;
    numbers = subst AllDiffer (sym (filled_alike known rel).numbers) runs.numbers;
    opened = all_open types (filled known rel) files (reads_stay known rel runs.reads) opened;
  }

  still_runs : (known : Known) (sub : Sub) (worth : Worth) (rel : Rel) → Goes sub.kind (columns_of sub.rel) worth → AwaitsIn sub rel → IsRunnable known rel → IsRunnable (more sub.hole worth known) rel
  still_runs known sub worth rel goes awaits runs =
      record {
        typed = runs.typed;
        numbers = runs.numbers;
        reads = runs.reads;
        taken = every_both (IsTakenBy known) (AwaitsAt sub) (IsTakenBy (more sub.hole worth known)) (level_more known sub worth goes) rel runs.taken awaits;
      }

  abbrev RunsSub : Known → Sub → Type 0
  RunsSub known sub = IsRunnable known sub.rel

  -- the subqueries that are left, and the main relation, may be run once what is known is put in
  module _ (main : Rel) where
    pub record AreLeft (subs : List Sub) (known : Known) : Type 0 where
      pub later : AllByRecursion (RunsSub known) subs
      pub own : IsRunnable known main
      pub awaited : AreAwaited subs main

    -- one more is known
    one_less : (sub : Sub) (rest : List Sub) (known : Known) (worth : Worth) → AreLeft (sub ∷ rest) known → Goes sub.kind (columns_of sub.rel) worth → AreLeft rest (more sub.hole worth known)
    one_less sub rest known worth left may =
        record {
          later =
              all_both (RunsSub known) (λ (later : Sub). AwaitsIn sub later.rel) (RunsSub (more sub.hole worth known)) rest
              (λ later runs awaits. still_runs known sub worth later.rel may awaits runs) left.later.1 left.awaited.0;
          own = still_runs known sub worth main may left.awaited.1 left.own;
          awaited = left.awaited.2;
        }

    -- where the subquery at a place comes next
    module _ (subs : List Sub) (place : ℕ) (sub : Sub) (known : List KnownWorth) (below : place < length subs) (here : sub ≡ get_or subs place sub) (left : AreLeft (drop place subs) (known_seen known)) where
      split : AreLeft (sub ∷ drop (place + 1) subs) (known_seen known)
      split = subst (λ (rest : List Sub). AreLeft rest (known_seen known)) (drop_more subs place sub below ∙ ap (λ one. one ∷ drop (place + 1) subs) (sym here)) left

      pub next_runs : IsRunnable (known_seen known) sub.rel
      next_runs = split.later.0

      pub next_left : (made : KnownWorth) → made.hole ≡ sub.hole → Goes sub.kind (columns_of sub.rel) (worth_seen made.worth) → AreLeft (drop (place + 1) subs) (known_seen (known ++ made ∷ []))
      next_left made hole may =
          subst (AreLeft (drop (place + 1) subs))
          (sym (map_push (λ (one : KnownWorth). (one.hole, worth_seen one.worth)) known made ∙ ap (λ (at : Hole). known_seen known ++ (at, worth_seen made.worth) ∷ []) hole))
          (one_less sub (drop (place + 1) subs) (known_seen known) (worth_seen made.worth) split may)

-- a plan at the start
module _ (plan : Holed) (typed : IsWellTyped plan) where
  runs : (rel : Rel) → AreTyped rel → AllDiffer (numbers_of rel) → AllReads (IsOfTypes (types_in plan)) rel → IsRunnable (types_in plan) [] rel
  runs rel well differ reads = record { typed = well; numbers = differ; reads = reads; taken = none_known rel well }

  all_run : (subs : List Sub) → AllByRecursion IsTypedSub subs → AllByRecursion (λ (sub : Sub). AllDiffer (numbers_of sub.rel)) subs → AllByRecursion (λ (sub : Sub). AllReads (IsOfTypes (types_in plan)) sub.rel) subs
      → AllByRecursion (RunsSub (types_in plan) []) subs
  all_run [] well differ reads = tt
  all_run (sub ∷ subs) well differ reads = (runs sub.rel well.0.0 differ.0 reads.0, all_run subs well.1 differ.1 reads.1)

  pub at_start : AreAwaited plan.subs plan.typed.rel → AreLeft (types_in plan) plan.typed.rel plan.subs []
  at_start awaited =
      let main = plan.typed.rel in
      let reads = in_plan (IsOfTypes (types_in plan)) plan (each_of_types plan typed) in
      let differ = second_differ (numbers_of main) (numbers_of_subs plan.subs) typed.numbers in
      record {
        later = all_run plan.subs typed.subqueries (subs_differ plan.subs differ) reads.0;
        own = runs main typed.plan (first_differ (numbers_of main) (numbers_of_subs plan.subs) typed.numbers) reads.1;
        awaited = awaited;
      }

  -- the files are open for the types of their numbers
  pub files_open : (files : List FilesSeen) → AllZip IsOpenRead (reads_of plan) files → AllByRecursion (IsOpenAs (types_in plan)) files
  files_open files are = open_as (types_in plan) (reads_of plan) files are (each_of_types plan typed)
