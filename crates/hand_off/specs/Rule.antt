-- What holds of the queue and of all passes between any two steps, and what a step does to its pass.
use Rattle.std.specs.Prelude.{◌≡◌, ℕ, ◌+◌, ◌-◌, ◌<◌, ◌≤◌, List, [], ◌∷◌, ◌++◌, sum_by}
use mathlib.Core.Option.{some}
use lib.ListN.{get_elem?}
use Rattle.hand_off.specs.Hand.{IsBeside}
use Rattle.hand_off.specs.declared.rule.Passed.{Passed}

module _ {T : Type 0} where
  -- a pass with this share, of so many passes, that has no items
  abbrev pub fresh : ℕ → ℕ → Passed T
  fresh passes share = record { offered = []; taken = []; share = share; passes = passes }

  -- of one pass: with no share it has no items, and with one it knows how many shares there are
  pub record FitsPass (passes : ℕ) (v : Passed T) : Type 0 where
    pub idle : v.share ≡ 0 → (v.offered ≡ []) × (v.taken ≡ [])
    pub knows : 0 < v.share → v.passes ≡ passes

  -- what all passes offered is what all took together with the queue, and the shares add up
  pub record Kept (items : List T) (views : List (Passed T)) : Type 0 where
    pub passes : ℕ
    pub balance : (f : T → ℕ) → sum_by (λ v. sum_by f v.offered) views ≡ sum_by (λ v. sum_by f v.taken) views + sum_by f items
    pub shares : sum_by (λ v. v.share) views ≡ passes
    pub each : (id : ℕ) (v : Passed T) → get_elem? views id ≡ some v → FitsPass passes v

  -- an item more is offered
  abbrev pub offering : Passed T → T → Passed T
  offering v x = record v { offered = v.offered ++ x ∷ [] }

  -- an item more is taken
  abbrev pub taking : Passed T → T → Passed T
  taking v x = record v { taken = v.taken ++ x ∷ [] }

  -- a push offers the item
  abbrev pub Offers : Passed T → T → Passed T → Type 0
  Offers v x w = w ≡ offering v x

  -- with all shares, what is taken was offered
  abbrev pub Takes : Passed T → T → Passed T → Type 0
  Takes v x w = (w ≡ taking v x) × (v.share ≡ v.passes → (f : T → ℕ) → sum_by f w.taken ≤ sum_by f w.offered)

  -- what the queue may hold beside the pass
  abbrev pub Sees : Passed T → List T → Type 0
  Sees v items = IsBeside v.offered v.taken v.share v.passes items

  -- one pass more; only a pass with all shares can make it
  abbrev pub growing : Passed T → Passed T
  growing v = record v { share = v.share + 1; passes = v.passes + 1 }

  -- one share goes to a new pass
  abbrev pub keeping : Passed T → Passed T
  keeping v = record v { share = v.share - 1 }

  -- what the new pass has
  abbrev pub parted : Passed T → Passed T
  parted v = fresh v.passes 1

  -- what two passes have together
  abbrev pub joined : Passed T → Passed T → Passed T
  joined v w = record { offered = v.offered ++ w.offered; taken = v.taken ++ w.taken; share = v.share + w.share; passes = v.passes }
