use Rattle.std.proofs.Common.{◌≡◌, ◌+◌, ◌≤◌, [], false, All, vec_len}
use Rattle.std.specs.Vec.{vec_capacity}
use Rattle.hand_off_tests.specs.Crew.{IsReady}
use Rattle.hand_off_tests.proofs.parts.crew_of.Given as goal

abbrev pub invariant-loop-seat : goal.invariant-loop-seat
invariant-loop-seat l = record {
  count : vec_len l.passes ≡ vec_len l.seats;
  made : vec_len l.crew + vec_len l.seats ≡ vec_len l.fn.seats;
  room : vec_len l.crew + vec_len l.seats ≤ vec_capacity l.crew;
  seats_of : All (λ s. s.of ≡ l.claims) l.seats.items;
  seats : All (λ s. (s.numbers ≡ []) × (s.ended ≡ false) × (s.share ≡ 1)) l.seats.items;
  passes_of : All (λ p. p.of ≡ l.hand) l.passes.items;
  passes : All (λ p. (p.offered ≡ []) × (p.taken ≡ []) × (p.share ≡ 1)) l.passes.items;
  ready : All (IsReady l.claims l.hand) l.crew.items;
}

abbrev pub decreases-loop-seat : goal.decreases-loop-seat
decreases-loop-seat l = vec_len l.seats
