-- Workers before and after their run, and what they have together.
use Rattle.std.specs.Prelude.{◌≡◌, ℕ, true, List, [], length, map, All, IfSome, sum_by}
use Rattle.run_core.specs.Counts.{times}
use Rattle.run_core.specs.Receipts.{Lists, lists_of, total, OffersOwn, FinishesOwn}
use Rattle.scan_claims.specs.Claims.{ClaimTable, SeatView}
use Rattle.hand_off.specs.Hand.{Hand, PassView}
use Rattle.hand_off_tests.specs.declared.numbers.Item.{Item}
use Rattle.hand_off_tests.specs.declared.crew.Worker.{Worker}

-- the numbers of items
abbrev pub numbers_of : List Item → List ℕ
numbers_of items = map (λ item. item.number) items

-- a worker with one share of the claims and of the hand-off
pub record IsPlaced (claims : ClaimTable) (hand : Hand) (w : Worker) : Type 0 where
  pub seat_of : w.seat.of ≡ claims
  pub seat_share : w.seat.share ≡ 1
  pub pass_of : w.pass.of ≡ hand
  pub pass_share : w.pass.share ≡ 1

-- nothing is done yet
pub record IsReady (claims : ClaimTable) (hand : Hand) (w : Worker) : Type 0 where
  pub placed : IsPlaced claims hand w
  pub numbers : w.seat.numbers ≡ []
  pub offered : w.pass.offered ≡ []
  pub taken : w.pass.taken ≡ []

-- the receipt has what the seat and the pass show
pub record Shows (seat : SeatView) (pass : PassView Item) (r : Lists) : Type 0 where
  pub ended : seat.ended ≡ true
  pub claimed : r.claimed ≡ seat.numbers
  pub offered : r.offered ≡ numbers_of pass.offered
  pub taken : r.taken ≡ numbers_of pass.taken
  pub offers_own : OffersOwn r
  pub finishes_own : FinishesOwn r

-- the worker met the end, or found no memory
pub record IsDone (claims : ClaimTable) (hand : Hand) (w : Worker) : Type 0 where
  pub placed : IsPlaced claims hand w
  pub receipt : IfSome w.receipt (λ r. Shows w.seat w.pass (lists_of r))

-- the seats, the passes and the receipts of workers that met the end
pub record AreParts (claims : ClaimTable) (hand : Hand) (seats : List SeatView) (passes : List (PassView Item)) (receipts : List Lists) : Type 0 where
  pub seats_of : All (λ s. s.of ≡ claims) seats
  pub seat_shares : sum_by (λ s. s.share) seats ≡ length seats
  pub ended : All (λ s. s.ended ≡ true) seats
  pub passes_of : All (λ p. p.of ≡ hand) passes
  pub pass_shares : sum_by (λ p. p.share) passes ≡ length passes
  pub claimed : (x : ℕ) → total (λ r. r.claimed) x receipts ≡ sum_by (λ s. times x s.numbers) seats
  pub offered : (x : ℕ) → total (λ r. r.offered) x receipts ≡ sum_by (λ p. times x (numbers_of p.offered)) passes
  pub taken : (x : ℕ) → total (λ r. r.taken) x receipts ≡ sum_by (λ p. times x (numbers_of p.taken)) passes
  pub offers_own : All OffersOwn receipts
  pub finishes_own : All FinishesOwn receipts
