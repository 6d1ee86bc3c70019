-- Workers before and after their run.
use Rattle.std.specs.Prelude.{◌≡◌, ℕ, ◌<◌, true, List, [], length, map, slice_index_or, All, Option, Some, None, IfSome}
use Rattle.run_core.specs.Receipts.{Lists, lists_of, no_lists, OffersOwn, FinishesOwn}
use Rattle.run_core.specs.declared.receipt.Receipt.{Receipt}
use Rattle.scan_claims.specs.Claims.{ClaimTable, SeatView}
use Rattle.hand_off.specs.Hand.{Hand, PassView}
use Rattle.hand_off.specs.Work.{IsSound, IsWorked}
use Rattle.crew.specs.Labours.{LabourView, IsFresh}
use Rattle.crew.specs.declared.worker.Worker.{Worker}

-- the lists of the receipt, if there is one
abbrev pub lists_in : Option Receipt → Lists
lists_in None = no_lists
lists_in (Some r) = lists_of r

-- a fact on each worker before and after
pub record AllDone {W : Type 0} (Done : W → W → Type 0) (old new : List W) : Type 0 where
  pub count : length new ≡ length old
  pub each : (k : ℕ) (d : W) → k < length old → Done (slice_index_or old k d) (slice_index_or new k d)

-- a worker with one share of the claims and of the hand-off
pub record IsPlaced {T L : Type 0} (claims : ClaimTable) (hand : Hand) (w : Worker T L) : Type 0 where
  pub seat_of : w.seat.of ≡ claims
  pub seat_share : w.seat.share ≡ 1
  pub pass_of : w.pass.of ≡ hand
  pub pass_share : w.pass.share ≡ 1

-- nothing is done yet
pub record IsReady {T L Out About : Type 0} (see : L → LabourView Out About) (claims : ClaimTable) (hand : Hand) (w : Worker T L) : Type 0 where
  pub placed : IsPlaced claims hand w
  pub numbers : w.seat.numbers ≡ []
  pub offered : w.pass.offered ≡ []
  pub taken : w.pass.taken ≡ []
  pub labour : IsFresh see w.labour

-- the numbers of items and of outcomes come first, then which items are right or failed, and which outcomes fit them
module _ {T Out About : Type 0} (item_number : T → ℕ) (out_number : Out → ℕ) (right failed : About → T → Type 0) (fits : About → T → Out → Type 0) where
  -- the receipt has what the seat, the pass and the labour show
  pub record Shows (seat : SeatView) (pass : PassView T) (labour : LabourView Out About) (r : Lists) : Type 0 where
    pub ended : seat.ended ≡ true
    pub claimed : r.claimed ≡ seat.numbers
    pub loaded : labour.loaded ≡ seat.numbers
    pub offered : r.offered ≡ map item_number pass.offered
    pub taken : r.taken ≡ map item_number pass.taken
    pub finished : r.finished ≡ map out_number labour.results
    pub sound : All (IsSound right failed labour.about 0 labour.failures) pass.offered
    pub worked : All (IsWorked right failed fits labour.about pass.taken 0 labour.failures) labour.results
    pub offers_own : OffersOwn r
    pub finishes_own : FinishesOwn r

  module _ {L : Type 0} (see : L → LabourView Out About) where
    -- the worker met the end, or found no memory
    pub record IsEnded (claims : ClaimTable) (hand : Hand) (w : Worker T L) : Type 0 where
      pub placed : IsPlaced claims hand w
      pub receipt : IfSome w.receipt (λ r. Shows w.seat w.pass (see w.labour) (lists_of r))

    -- and its labour speaks of what it spoke of before
    pub record IsDone (claims : ClaimTable) (hand : Hand) (old new : Worker T L) : Type 0 where
      pub about : (see new.labour).about ≡ (see old.labour).about
      pub ended : IsEnded claims hand new
