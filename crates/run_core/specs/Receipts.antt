-- What the workers of a run did, and when their lists go together.
use Rattle.std.specs.Prelude.{◌≡◌, ℕ, ◌+◌, ◌-◌, List, [], All, sum_by}
use Rattle.run_core.specs.Counts.{times, once_below, IsPart}
use Rattle.run_core.specs.declared.receipt.Receipt.{Receipt}

-- one worker's numbers: claimed, offered to the queue, taken from it, and worked to the end
pub record Lists : Type 0 where
  pub claimed : List ℕ
  pub offered : List ℕ
  pub taken : List ℕ
  pub finished : List ℕ

-- nothing is done yet
abbrev pub no_lists : Lists
no_lists = record { claimed = []; offered = []; taken = []; finished = [] }

-- a receipt without where it lies in memory
abbrev pub lists_of : Receipt → Lists
lists_of r = record { claimed = r.claimed.items; offered = r.offered.items; taken = r.taken.items; finished = r.finished.items }

-- how often the number stands in this list of all workers together
abbrev pub total : (Lists → List ℕ) → ℕ → List Lists → ℕ
total list x receipts = sum_by (λ r. times x (list r)) receipts

-- what the worker offered is part of what it claimed
abbrev pub OffersOwn : Lists → Type 0
OffersOwn r = IsPart r.offered r.claimed

-- what the worker finished is what it took together with what it claimed and didn't offer
abbrev pub FinishesOwn : Lists → Type 0
FinishesOwn r = (x : ℕ) → times x r.finished ≡ times x r.taken + (times x r.claimed - times x r.offered)

-- the numbers below n were claimed once each, and each was finished by one worker or is left
pub record IsBalanced (n : ℕ) (receipts : List Lists) (left : List ℕ) : Type 0 where
  pub claimed_once : (x : ℕ) → total (λ r. r.claimed) x receipts ≡ once_below x n
  pub passed_on : (x : ℕ) → total (λ r. r.offered) x receipts ≡ total (λ r. r.taken) x receipts + times x left
  pub offers_own : All OffersOwn receipts
  pub finishes_own : All FinishesOwn receipts
  pub finished_once : (x : ℕ) → total (λ r. r.finished) x receipts + times x left ≡ once_below x n
