-- The work of one worker: what its seat, its pass and its labour gain from a start on, and what its receipt says of it.
use Rattle.std.specs.Prelude.{◌≡◌, ℕ, ◌+◌, ◌≤◌, ◌⊎◌, List, ◌++◌, length, map, All, Contains}
use Rattle.world.specs.Counts.{Rose}
use Rattle.run_core.specs.Counts.{times}
use Rattle.run_core.specs.Receipts.{Lists}
use Rattle.scan_claims.specs.Claims.{SeatView}
use Rattle.hand_off.specs.Hand.{PassView}

-- where a worker stands: its seat, its pass, what its labour shows, and its receipt so far
pub record Point (T Out About : Type 0) : Type 0 where
  pub seat : SeatView
  pub pass : PassView T
  pub about : About
  pub loaded : List ℕ
  pub results : List Out
  pub failures : ℕ
  pub receipt : Lists

-- the list only grew
abbrev pub Grew : {X : Type 0} → List X → List X → Type 0
Grew {X} old new = (more : List X) × (new ≡ old ++ more)

-- the list gained these elements at its end, of which the fact holds
abbrev pub Gained : {X : Type 0} → List X → List X → (List X → Type 0) → Type 0
Gained {X} old new P = (more : List X) × (new ≡ old ++ more) × P more

module _ {T Out About : Type 0} where
  -- the point of these parts
  abbrev pub point : SeatView → PassView T → About → List ℕ → List Out → ℕ → Lists → Point T Out About
  point seat pass about loaded results failures receipt = record { seat = seat; pass = pass; about = about; loaded = loaded; results = results; failures = failures; receipt = receipt }

  -- seat, pass and labour hold what they held at the start, and what was done since
  pub record HoldsSoFar (start now : Point T Out About) : Type 0 where
    pub seat : (now.seat.of ≡ start.seat.of) × (now.seat.share ≡ start.seat.share)
    pub pass : (now.pass.of ≡ start.pass.of) × (now.pass.share ≡ start.pass.share)
    pub about : now.about ≡ start.about
    pub numbers : Grew start.seat.numbers now.seat.numbers
    pub offered : Grew start.pass.offered now.pass.offered
    pub taken : Grew start.pass.taken now.pass.taken
    pub loaded : Grew start.loaded now.loaded
    pub results : Grew start.results now.results
    pub failures : start.failures ≤ now.failures

-- which items are right, which failed, and which outcomes fit them
module _ {T About : Type 0} (right failed : About → T → Type 0) where
  -- the item is right, and it is failed only where the count of failures rose
  abbrev pub IsSound : About → ℕ → ℕ → T → Type 0
  IsSound about before now item = right about item × (failed about item → Rose before now)

  -- the outcome fits an item that was taken, or one that is sound
  abbrev pub IsWorked : {Out : Type 0} → (About → T → Out → Type 0) → About → List T → ℕ → ℕ → Out → Type 0
  IsWorked fits about taken before now out = (item : T) × (Contains taken item ⊎ IsSound about before now item) × fits about item out

-- the number of an item and of an outcome come first
module _ {T Out About : Type 0} (item_number : T → ℕ) (out_number : Out → ℕ) (right failed : About → T → Type 0) (fits : About → T → Out → Type 0) where
  -- from the start on the receipt has all that was gained, and so many items more were offered than taken where the pass has all shares
  pub record Came (start now : Point T Out About) (ahead : ℕ) : Type 0 where
    pub holds : HoldsSoFar start now
    pub claimed : now.seat.numbers ≡ start.seat.numbers ++ now.receipt.claimed
    pub loaded : now.loaded ≡ start.loaded ++ now.receipt.claimed
    pub offered : List T
    pub offered_are : now.pass.offered ≡ start.pass.offered ++ offered
    pub offered_noted : now.receipt.offered ≡ map item_number offered
    pub sound : All (IsSound right failed start.about start.failures now.failures) offered
    pub taken : List T
    pub taken_are : now.pass.taken ≡ start.pass.taken ++ taken
    pub taken_noted : now.receipt.taken ≡ map item_number taken
    pub outs : List Out
    pub outs_are : now.results ≡ start.results ++ outs
    pub outs_noted : now.receipt.finished ≡ map out_number outs
    pub worked : All (IsWorked right failed fits start.about taken start.failures now.failures) outs
    pub own : (x : ℕ) → times x now.receipt.offered ≤ times x now.receipt.claimed
    pub balance : (x : ℕ) → times x now.receipt.finished + times x now.receipt.offered ≡ times x now.receipt.taken + times x now.receipt.claimed
    pub alone : start.pass.share ≡ start.pass.of.passes → length start.pass.offered ≡ length start.pass.taken
        → (now.receipt.offered ≡ now.receipt.claimed) × (length now.pass.offered ≡ length now.pass.taken + ahead)
