-- Whatever the verdict accepts is well typed.
use Rattle.std.proofs.Common.{◌≡◌, ◌≤◌, ℕ, ◌+◌, List, [], ◌++◌, Bool, true, false, Option, Some, None, Result, Ok, Err, refl, sym, ap, subst, arith}
use Rattle.std.specs.Prelude.{length, ◌==◌, nat_le, IfOk}
use Rattle.std.specs.Option.{ok_or}
use Rattle.std.proofs.lemmas.Bool.Decides.{nat_tests}
use Rattle.plan_raw.specs.declared.plan.PlanTree.{PlanTree}
use Rattle.plan_raw.specs.declared.plan.RootDecl.{RootDecl}
use Rattle.plan_tree.specs.Numbering.{relation_count}
use Rattle.plan_typed.specs.declared.rel.Typed.{Typed}
use Rattle.plan_typed.specs.declared.sub.Holed.{Holed}
use Rattle.plan_typed.specs.Numbers.{numbers_of}
use Rattle.plan_typed.specs.Types.{columns_of}
use Rattle.well_typed.specs.WellTyped.{AreTyped, IsWellTyped, IsWellTypedAlone, numbers_of_subs, MayBe}
use Rattle.plan_verdict.specs.declared.progress.Progress.{Progress}
use Rattle.plan_verdict.specs.declared.rule.CheckError.{CheckError}
use Rattle.plan_verdict.specs.declared.rule.Rule.TheVariants as rules
use Rattle.plan_verdict.specs.Checking.{Refusal}
use Rattle.plan_verdict.specs.Exprs.{Terms}
use Rattle.plan_verdict.specs.Lists.{only}
use Rattle.plan_verdict.specs.Verdict.{MAX_RELATIONS, Answers, checked_rel, plan_in, terms_of, start, holed, verdict, typed_alone}
use Rattle.plan_verdict.proofs.NumberLaws.{numbered_sound}
use Rattle.plan_verdict.proofs.PlanLevelLaws.{every_rel_sound}
use Rattle.plan_verdict.proofs.RelLaws.{anything_given}
use Rattle.plan_verdict.proofs.Sound.{Sound, Found, After, then, and_then, accepted, parted, tested, found, same_held, times, times_is, times-append, between, between-le}

abbrev value_or : {A E : Type 0} → A → Result A E → A
value_or other (Ok value) = value
value_or other (Err _) = other

some_found : {A : Type 0} (written : Option A) → MayBe (λ _. Unit {0}) written
some_found (Some one) = tt
some_found None = tt

same_count : (a b : ℕ) (test : Bool) → (a == b) ≡ test → test ≡ true → a ≡ b
same_count a b true e h = grind (arith, nat_tests)
same_count a b false e h = absurd cc

-- a plan's relations are well typed, and it has as many names as columns
abbrev IsPlan : Typed → Type 0
IsPlan typed = AreTyped typed.rel × (length typed.names ≡ length (columns_of typed.rel))

abbrev held : Typed → List ℕ
held typed = numbers_of typed.rel ++ []

plan_sound : (terms : Terms) (roots : List RootDecl) → Sound IsPlan held [] (plan_in terms roots)
plan_sound terms roots =
    then (parted (λ _. Unit {0}) [] 0 (ok_or (only roots) rules.UnsupportedForm) (anything_given (ok_or (only roots) rules.UnsupportedForm))) (λ root _.
    and_then (tested [] 0 root.is_root rules.UnsupportedForm) (λ _ _.
    then (found (λ _. Unit {0}) [] 0 root.input (some_found root.input)) (λ input _.
    and_then (tested [] 0 (nat_le (relation_count input) MAX_RELATIONS) rules.TooMany) (λ _ _.
    then (numbered_sound [] (checked_rel terms input) (every_rel_sound terms input)) (λ rel typed.
    and_then (tested (numbers_of rel ++ []) 0 (length root.names == length (columns_of rel)) rules.BadNames) (λ _ test.
    accepted IsPlan held (numbers_of rel ++ []) (record { rel = rel; names = root.names })
    (typed, same_count (length root.names) (length (columns_of rel)) (length root.names == length (columns_of rel)) refl test) (same_held (numbers_of rel ++ []))))))))

-- no number stands twice in what is found from the start
made : (typed : Typed) (progress : Progress) → After IsPlan held [] start typed progress → IsWellTyped (record { typed = typed; subs = progress.subs })
made typed progress after = record {
  plan = after.known.0;
  subqueries = after.subs;
  numbers = λ n.
      let own = numbers_of typed.rel in
      let others = numbers_of_subs progress.subs in
      let apart : times n (own ++ []) + times n others ≤ times n [] + times n [] + between 0 progress.relations n = after.apart n in
      subst (λ count. count ≤ 1) (times_is n (own ++ others)) (omega (arith, apart, times-append n own others, times-append n own [], times-append n [] [], between-le 0 progress.relations n));
  names = after.known.1;
}

verdict_at : (r : Result (Typed × Progress) Refusal) (whole : Holed) → Found IsPlan held [] start r → holed r ≡ Ok whole → IsWellTyped whole
verdict_at (Ok (typed, progress)) whole after e = subst IsWellTyped (ap (value_or whole) e) (made typed progress after)
verdict_at (Err refusal) whole after e = absurd cc

-- an accepted plan is well typed, with its subqueries
pub verdict_is_well_typed : (with_subqueries : Bool) (tree : PlanTree) (found : Holed) → verdict with_subqueries tree ≡ Ok found → IsWellTyped found
verdict_is_well_typed with_subqueries tree whole e =
    let terms = terms_of with_subqueries tree in
    verdict_at (plan_in terms tree.roots start) whole ((plan_sound terms tree.roots).at start tt) e

-- a plan with its subqueries is well typed without them
alone_of : (whole : Holed) → IsWellTyped whole → IsWellTypedAlone whole.typed
alone_of whole is = (
  is.plan,
  (λ n.
      let own = numbers_of whole.typed.rel in
      let others = numbers_of_subs whole.subs in
      let all : times n (own ++ others) ≤ 1 = subst (λ count. count ≤ 1) (sym (times_is n (own ++ others))) (is.numbers n) in
      subst (λ count. count ≤ 1) (times_is n own) (omega (arith, all, times-append n own others))),
  is.names,
)

alone_at : (r : Result Holed Refusal) (typed : Typed) → ((whole : Holed) → r ≡ Ok whole → IsWellTyped whole) → typed_alone r ≡ Ok typed → IsWellTypedAlone typed
alone_at (Ok whole) typed k e = subst IsWellTypedAlone (ap (value_or typed) e) (alone_of whole (k whole refl))
alone_at (Err refusal) typed k e = absurd cc

-- an accepted plan without subqueries is well typed
pub alone_is_well_typed : (tree : PlanTree) (typed : Typed) → typed_alone (verdict false tree) ≡ Ok typed → IsWellTypedAlone typed
alone_is_well_typed tree typed e = alone_at (verdict false tree) typed (verdict_is_well_typed false tree) e

-- so is what a call answers, if it answers with a plan
pub answer_is_well_typed : (with_subqueries : Bool) (tree : PlanTree) (answer : Result Holed CheckError) → Answers answer (verdict with_subqueries tree) → IfOk answer (λ whole. IsWellTyped whole)
answer_is_well_typed with_subqueries tree (Ok whole) is = verdict_is_well_typed with_subqueries tree whole is
answer_is_well_typed with_subqueries tree (Err error) is = tt

pub answer_is_well_typed_alone : (tree : PlanTree) (answer : Result Typed CheckError) → Answers answer (typed_alone (verdict false tree)) → IfOk answer (λ typed. IsWellTypedAlone typed)
answer_is_well_typed_alone tree (Ok typed) is = alone_is_well_typed tree typed is
answer_is_well_typed_alone tree (Err error) is = tt
