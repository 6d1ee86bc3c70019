-- Checks that give the same, whatever numbers the nodes have and whatever subqueries are done before them.
use Rattle.std.specs.Prelude.{◌≡◌, Result, Ok, Err}
use Rattle.plan_verdict.specs.declared.progress.Progress.{Progress}
use Rattle.plan_verdict.specs.Checking.{Checking, Refusal}

-- the same value, with as many relations so far, or the same refusal
abbrev pub AreAlike : {A : Type 0} → Result (A × Progress) Refusal → Result (A × Progress) Refusal → Type 0
AreAlike (Ok (value, after)) (Ok (other, end)) = (value ≡ other) × (after.relations ≡ end.relations)
AreAlike (Err refusal) (Err other) = refusal ≡ other
AreAlike (Ok _) (Err _) = ⊥
AreAlike (Err _) (Ok _) = ⊥

-- two checks give the same, where as many relations are numbered before them
pub record Alike {A : Type 0} (one other : Checking A) : Type 0 where
  pub at : (before start : Progress) → before.relations ≡ start.relations → AreAlike (one before) (other start)

-- a check gives the same wherever as many relations are numbered before it
abbrev pub IsBlind : {A : Type 0} → Checking A → Type 0
IsBlind check = Alike check check
