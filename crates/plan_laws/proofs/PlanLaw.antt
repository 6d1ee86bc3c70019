-- A plan over tables whose rows were tested denotes what it denotes over the tables.
use Rattle.std.proofs.Common.{◌≡◌, ◌∙◌, List, [], ◌∷◌, ◌++◌, Result, Ok, Err, refl, sym, ap, subst}
use Rattle.std.specs.List.{AllByRecursion}
use Rattle.sub_types.specs.declared.fault.Fault.{Fault}
use Rattle.plan_typed.specs.declared.rel.Rel.{Rel}
use Rattle.plan_typed.specs.declared.sub.Holed.{Holed}
use Rattle.plan_typed.specs.declared.sub.Sub.{Sub}
use Rattle.plan_denote.specs.Rows.{◌>>=◌}
use Rattle.plan_denote.specs.Denote.{Tables, denote}
use Rattle.plan_denote.specs.Holes.{Known, filled}
use Rattle.plan_denote.specs.Subqueries.{worth_of_stream, worths, rows_with, denote_plan}
use Rattle.plan_laws.specs.Tested.{IsTestedRead, AreTested, AreTestedIn}
use Rattle.plan_laws.proofs.FilledLaws.{reads_filled}
use Rattle.plan_laws.proofs.TableLaw.{law_of_tested}

module _ (tested tables : Tables) where
  -- a relation with the values of subqueries put in
  filled_same : (known : Known) (rel : Rel) → AreTested tested tables rel → denote tested (filled known rel) ≡ denote tables (filled known rel)
  filled_same known rel are = law_of_tested tested tables (filled known rel) (subst (AllByRecursion (IsTestedRead tested tables)) (sym (reads_filled known rel)) are)

  -- what the subqueries are worth
  worths_same : (subs : List Sub) (known : Known) → AllByRecursion (λ (sub : Sub). AreTested tested tables sub.rel) subs → worths tested subs known ≡ worths tables subs known
  worths_same [] known are = refl
  worths_same (sub ∷ rest) known are =
      λ i. worth_of_stream sub (filled_same known sub.rel are.0 i) >>= (λ worth. worths_same rest (known ++ (sub.hole, worth) ∷ []) are.1 i)

  rows_same : (main : Rel) (found : Result Known Fault) → AreTested tested tables main → rows_with tested main found ≡ rows_with tables main found
  rows_same main (Ok known) are = filled_same known main are
  rows_same main (Err fault) are = refl

  -- the rows of a plan
  pub law_of_tested_plans : (plan : Holed) → AreTestedIn tested tables plan → denote_plan tested plan ≡ denote_plan tables plan
  unfolding denote_plan
  law_of_tested_plans plan are = ap (rows_with tested plan.typed.rel) (worths_same plan.subs [] are.subqueries) ∙ rows_same plan.typed.rel (worths tables plan.subs []) are.main
