use Rattle.std.proofs.Common.{◌≡◌, All, vec_len}
use Rattle.hand_off_tests.proofs.tests.claims.claimed_in_turn.Given as goal

abbrev pub invariant-loop-seat : goal.invariant-loop-seat
invariant-loop-seat l = All (λ s. s.of ≡ l.claims) l.seats.items

abbrev pub decreases-loop-seat : goal.decreases-loop-seat
decreases-loop-seat l = vec_len l.seats
