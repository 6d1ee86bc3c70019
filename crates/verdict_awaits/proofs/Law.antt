-- In an accepted plan the hole of each subquery awaits what the subquery gives, and so the rows of the plan fit its columns.
use Rattle.std.proofs.Common.{◌≡◌, ℕ, List, [], ◌∷◌, Bool, true, false, Option, Some, None, Result, Ok, Err, sym, ap, subst}
use Rattle.std.specs.Prelude.{length, ◌==◌, nat_le}
use Rattle.std.specs.Option.{ok_or}
use Rattle.std.specs.List.{AllByRecursion}
use Rattle.plan_raw.specs.declared.plan.PlanTree.{PlanTree}
use Rattle.plan_raw.specs.declared.plan.RootDecl.{RootDecl}
use Rattle.plan_tree.specs.Numbering.{relation_count}
use Rattle.plan_typed.specs.declared.rel.Rel.{Rel}
use Rattle.plan_typed.specs.declared.rel.Typed.{Typed}
use Rattle.plan_typed.specs.declared.sub.Holed.{Holed}
use Rattle.plan_typed.specs.declared.sub.Sub.{Sub}
use Rattle.plan_typed.specs.Types.{columns_of}
use Rattle.sub_types.specs.Value.{Fits}
use Rattle.plan_denote.specs.Denote.{Tables}
use Rattle.plan_denote.specs.Subqueries.{denote_plan}
use Rattle.denote_typed.specs.Holes.{AwaitsIn, AreAwaited}
use Rattle.denote_typed.specs.Kinded.{AreWellKinded}
use Rattle.denote_typed.proofs.PlanLaw.{law_of_plans}
use Rattle.plan_verdict.specs.declared.progress.Progress.{Progress}
use Rattle.plan_verdict.specs.declared.rule.Rule.{Rule}
use Rattle.plan_verdict.specs.declared.rule.Rule.TheVariants as rules
use Rattle.plan_verdict.specs.Checking.{Checking, Refusal, go_on, part, must, present}
use Rattle.plan_verdict.specs.Exprs.{Terms}
use Rattle.plan_verdict.specs.Lists.{only}
use Rattle.plan_verdict.specs.Relation.{numbered}
use Rattle.plan_verdict.specs.Verdict.{MAX_RELATIONS, checked_rel, plan_in, terms_of, start, holed, verdict}
use Rattle.plan_verdict.proofs.VerdictLaw.{verdict_is_well_typed}
use Rattle.verdict_awaits.proofs.NumberLaws.{Numbered, IsNumbered, numbered_whole}
use Rattle.verdict_awaits.proofs.Parts.{AwaitEachOther}
use Rattle.verdict_awaits.proofs.PlanLevelLaws.{every_rel_waits}

-- what a check ends with, unless it is refused
abbrev Ends : {A : Type 0} → (A → Progress → Type 0) → Result (A × Progress) Refusal → Type 0
Ends Q (Ok (value, after)) = Q value after
Ends Q (Err refusal) = Unit {0}

module _ {B : Type 0} (Q : B → Progress → Type 0) (before : Progress) where
  part_ends : {A : Type 0} (number : ℕ) (found : Result A Rule) (next : A → Checking B) → ((value : A) → Ends Q (next value before)) → Ends Q (go_on (part number found before) next)
  part_ends number (Ok value) next k = k value
  part_ends number (Err rule) next k = tt

  must_ends : (number : ℕ) (test : Bool) (rule : Rule) (next : Checking B) → Ends Q (next before) → Ends Q (go_on (must number test rule before) (λ _. next))
  must_ends number true rule next k = k
  must_ends number false rule next k = tt

  present_ends : {A : Type 0} (number : ℕ) (written : Option A) (next : A → Checking B) → ((value : A) → Ends Q (next value before)) → Ends Q (go_on (present number written before) next)
  present_ends number (Some value) next k = k value
  present_ends number None next k = tt

  numbered_ends : (r : Result (Rel × Progress) Refusal) (next : Rel → Checking B) → IsNumbered before r → ((rel : Rel) (after : Progress) → Numbered before rel after → Ends Q (next rel after)) → Ends Q (go_on r next)
  numbered_ends (Ok (rel, after)) next n k = k rel after n
  numbered_ends (Err refusal) next n k = tt

awaited_all : (subs : List Sub) (rel : Rel) → AwaitEachOther subs → AllByRecursion (λ (sub : Sub). AwaitsIn sub rel) subs → AreAwaited subs rel
awaited_all [] rel each all = tt
awaited_all (sub ∷ subs) rel each all = (each.0, all.0, awaited_all subs rel each.1 all.1)

abbrev IsAwaited : Typed → Progress → Type 0
IsAwaited typed progress = AreAwaited progress.subs typed.rel

plan_ends : (terms : Terms) (roots : List RootDecl) → Ends IsAwaited (plan_in terms roots start)
plan_ends terms roots =
    part_ends IsAwaited start 0 (ok_or (only roots) rules.UnsupportedForm) _ (λ root.
    must_ends IsAwaited start 0 root.is_root rules.UnsupportedForm _
    (present_ends IsAwaited start 0 root.input _ (λ input.
    must_ends IsAwaited start 0 (nat_le (relation_count input) MAX_RELATIONS) rules.TooMany _
    (numbered_ends IsAwaited start (numbered (checked_rel terms input) start) _ (numbered_whole (checked_rel terms input) (every_rel_waits terms input) start) (λ rel after n.
    must_ends IsAwaited after 0 (length root.names == length (columns_of rel)) rules.BadNames _
    (subst (λ subs. AreAwaited subs rel) (sym n.subs_are) (awaited_all n.done rel n.in_later n.in_own)))))))

plan_or : Holed → Result Holed Refusal → Holed
plan_or other (Ok plan) = plan
plan_or other (Err refusal) = other

verdict_at : (r : Result (Typed × Progress) Refusal) (plan : Holed) → Ends IsAwaited r → holed r ≡ Ok plan → AreAwaited plan.subs plan.typed.rel
unfolding plan_or
verdict_at (Ok (typed, progress)) plan awaited e = subst (λ (one : Holed). AreAwaited one.subs one.typed.rel) (ap (plan_or plan) e) awaited
verdict_at (Err refusal) plan awaited e = absurd cc

pub law_of_verdicts : (tree : PlanTree) (plan : Holed) → verdict true tree ≡ Ok plan → AreAwaited plan.subs plan.typed.rel
law_of_verdicts tree plan e = let terms = terms_of true tree in verdict_at (plan_in terms tree.roots start) plan (plan_ends terms tree.roots) e

-- so the rows of an accepted plan fit its columns
pub law_of_rows : (tables : Tables) (tree : PlanTree) (plan : Holed) → verdict true tree ≡ Ok plan → AllByRecursion (λ (sub : Sub). AreWellKinded tables sub.rel) plan.subs → AreWellKinded tables plan.typed.rel
    → AllByRecursion (Fits (columns_of plan.typed.rel)) (denote_plan tables plan).rows
law_of_rows tables tree plan e kinded own = law_of_plans tables plan (verdict_is_well_typed true tree plan e) (law_of_verdicts tree plan e) kinded own
