-- The answer, once its steps are known.
use Rattle.std.proofs.Common.{◌≡◌, refl, subst, ℕ, List, length, Err, nat_le, false, inl, inr}
use Rattle.std.proofs.lemmas.Bool.{lt-leb}
use Rattle.std.specs.FinMap.{get}
use Rattle.world.specs.Files.{Files}
use Rattle.plan_typed.specs.declared.sub.Holed.{Holed}
use Rattle.run_words.specs.declared.status.Status.{Status}
use Rattle.run_words.specs.declared.status.Status.TheVariants as status
use Rattle.run_accepted.specs.Done.{IsAccepted}
use Rattle.run_accepted.specs.Fits.{IsOutcome}
use Rattle.run_top.specs.declared.plan.Found.{Found}
use Rattle.run_top.specs.declared.plan.Found.TheVariants as found
use Rattle.run_top.specs.Found.{IsFound}
use Rattle.run_top.specs.Answer.{MAX_PLAN, tree_in, accepted_in, accepted_at, IsPlanRefusal, IsCheckNamed, IsNamed}

-- a plan that is too long isn't accepted
pub too_long : (files : Files) (name : List ℕ) (told : Found) → IsFound told (get files name) → told ≡ found.TooLong → accepted_at files name ≡ Err (status.PlanUnreadable MAX_PLAN)
unfolding accepted_in tree_in
too_long files name told is long =
    let at : IsFound found.TooLong (get files name) = subst (λ one. IsFound one (get files name)) long is in
    let there = at.1 in
    let over : nat_le (length at.0) MAX_PLAN ≡ false = lt-leb (length at.0) MAX_PLAN at.2 in
    rw (there, over) refl

-- why a plan isn't accepted is an answer of `run`
pub not_run : (refusal : Status) → IsPlanRefusal refusal → IsNamed refusal
not_run (status.PlanUnreadable place) named = tt
not_run (status.PlanRefused relation rule) named = named
not_run (status.FileRefused file rule) named = inl named
not_run status.ReadFault named = tt
not_run status.NoMemory named = tt
not_run (status.Ok report) named = absurd named
not_run status.Usage named = absurd named
not_run (status.DataFault fault) named = absurd named
not_run status.WriteFault named = absurd named

-- what comes of an accepted plan is an answer of `run`
pub outcome_named : (plan : Holed) (outcome : Status) → IsAccepted plan → IsOutcome plan outcome → IsNamed outcome
outcome_named plan (status.FileRefused file rule) accepted named = inr (plan, accepted, named)
outcome_named plan (status.DataFault fault) accepted named = (plan, accepted, named)
outcome_named plan status.ReadFault accepted named = tt
outcome_named plan status.NoMemory accepted named = tt
outcome_named plan (status.Ok report) accepted named = tt
outcome_named plan status.WriteFault accepted named = tt
outcome_named plan (status.PlanUnreadable place) accepted named = absurd named
outcome_named plan (status.PlanRefused relation rule) accepted named = absurd named
outcome_named plan status.Usage accepted named = absurd named

-- why a plan isn't accepted is an answer of `check`
pub not_accepted_check : (refusal : Status) → IsPlanRefusal refusal → IsCheckNamed refusal
not_accepted_check (status.PlanUnreadable place) named = tt
not_accepted_check (status.PlanRefused relation rule) named = named
not_accepted_check (status.FileRefused file rule) named = named
not_accepted_check status.ReadFault named = tt
not_accepted_check status.NoMemory named = tt
not_accepted_check (status.Ok report) named = absurd named
not_accepted_check status.Usage named = absurd named
not_accepted_check (status.DataFault fault) named = absurd named
not_accepted_check status.WriteFault named = absurd named
