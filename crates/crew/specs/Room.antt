-- Room for the parts of workers.
use Rattle.std.specs.Prelude.{◌≡◌, ℕ, ◌≤◌, []}
use Rattle.std.specs.Vec.{vec_capacity}
use Rattle.crew.specs.declared.parts.Parts.{Parts}

-- nothing is there yet, and the parts of so many workers need no memory
pub record IsRoomFor {T : Type 0} (workers : ℕ) (p : Parts T) : Type 0 where
  pub empty : (p.seats.items ≡ []) × (p.passes.items ≡ []) × (p.receipts.items ≡ [])
  pub seats : workers ≤ vec_capacity p.seats
  pub passes : workers ≤ vec_capacity p.passes
  pub receipts : workers ≤ vec_capacity p.receipts
