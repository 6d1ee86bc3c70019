-- What workers that met the end have together.
use Rattle.std.specs.Prelude.{◌≡◌, ℕ, true, List, length, map, sum_by, All, Any, Contains, ◌⊎◌}
use Rattle.std.specs.List.{flat_map}
use Rattle.run_core.specs.Counts.{times}
use Rattle.run_core.specs.Receipts.{Lists, total, OffersOwn, FinishesOwn}
use Rattle.scan_claims.specs.Claims.{ClaimTable, SeatView}
use Rattle.hand_off.specs.Hand.{Hand, PassView}
use Rattle.hand_off.specs.Work.{IsSound}
use Rattle.crew.specs.Labours.{LabourView}

module _ {Out About L : Type 0} (see : L → LabourView Out About) where
  -- the failures that the labours counted
  abbrev pub failures_of : List L → ℕ
  failures_of labours = sum_by (λ l. (see l).failures) labours

  -- the outcomes that the labours keep
  abbrev pub results_of : List L → List Out
  results_of labours = flat_map (λ l. (see l).results) labours

-- the numbers of items and of outcomes come first, then which items are right or failed, and which outcomes fit them
module _ {T Out About L : Type 0} (item_number : T → ℕ) (out_number : Out → ℕ) (right failed : About → T → Type 0) (fits : About → T → Out → Type 0) (see : L → LabourView Out About) where
  -- the receipts have what the seats, the passes and the labours show; what was offered is sound, and each outcome fits an item that was taken or is sound
  pub record HaveEnded (claims : ClaimTable) (hand : Hand) (seats : List SeatView) (passes : List (PassView T)) (receipts : List Lists) (labours : List L) : Type 0 where
    pub workers : length receipts ≡ length labours
    pub seats_of : All (λ s. s.of ≡ claims) seats
    pub seat_shares : sum_by (λ s. s.share) seats ≡ claims.seats
    pub ended : Any (λ s. s.ended ≡ true) seats
    pub passes_of : All (λ p. p.of ≡ hand) passes
    pub pass_shares : sum_by (λ p. p.share) passes ≡ hand.passes
    pub claimed : (x : ℕ) → total (λ r. r.claimed) x receipts ≡ sum_by (λ s. times x s.numbers) seats
    pub loaded : (x : ℕ) → sum_by (λ l. times x (see l).loaded) labours ≡ sum_by (λ s. times x s.numbers) seats
    pub offered : (x : ℕ) → total (λ r. r.offered) x receipts ≡ times x (map item_number (flat_map (λ p. p.offered) passes))
    pub taken : (x : ℕ) → total (λ r. r.taken) x receipts ≡ times x (map item_number (flat_map (λ p. p.taken) passes))
    pub finished : (x : ℕ) → total (λ r. r.finished) x receipts ≡ times x (map out_number (results_of see labours))
    pub offers_own : All OffersOwn receipts
    pub finishes_own : All FinishesOwn receipts
    pub sound : (a : About) → All (λ l. (see l).about ≡ a) labours → All (IsSound right failed a 0 (failures_of see labours)) (flat_map (λ p. p.offered) passes)
    pub worked : (a : About) → All (λ l. (see l).about ≡ a) labours
        → All (λ out. (item : T) × (Contains (flat_map (λ p. p.taken) passes) item ⊎ IsSound right failed a 0 (failures_of see labours) item) × fits a item out) (results_of see labours)
