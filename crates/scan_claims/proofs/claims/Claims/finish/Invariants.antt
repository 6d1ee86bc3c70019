use Rattle.std.proofs.Common.{◌≡◌, ℕ, ◌+◌, true, sum_by, All, Any, vec_len, ◌⊎◌}
use Rattle.run_core.specs.Counts.{times}
use Rattle.scan_claims.proofs.claims.Claims.finish.Given as goal

abbrev pub invariant-loop-seat : goal.invariant-loop-seat
invariant-loop-seat l = record {
  of : All (λ s. s.of ≡ l.self) l.seats.items;
  mine : l.all.of ≡ l.self;
  shares : l.all.share + sum_by (λ s. s.share) l.seats.items ≡ l.self.seats;
  numbers : (x : ℕ) → times x l.all.numbers + sum_by (λ s. times x s.numbers) l.seats.items ≡ sum_by (λ s. times x s.numbers) l.fn.seats.items;
  ended : Any (λ s. s.ended ≡ true) l.fn.seats.items → (l.all.ended ≡ true) ⊎ Any (λ s. s.ended ≡ true) l.seats.items;
}

abbrev pub decreases-loop-seat : goal.decreases-loop-seat
decreases-loop-seat l = vec_len l.seats
