use Rattle.std.proofs.Common.{◌≡◌, ◌+◌, false, [], All, sum_by, vec_len}
use Rattle.scan_claims.proofs.claims.Claims.new.Given as goal

abbrev pub invariant-loop : goal.invariant-loop
invariant-loop l = record {
  mine : l.first.of ≡ l.claims;
  fresh : (l.first.numbers ≡ []) × (l.first.ended ≡ false);
  of : All (λ s. s.of ≡ l.claims) l.places.items;
  each : All (λ s. (s.numbers ≡ []) × (s.ended ≡ false) × (s.share ≡ 1)) l.places.items;
  shares : l.first.share + vec_len l.places ≡ l.seats;
  whole : sum_by (λ s. s.share) l.places.items + l.first.share ≡ l.seats;
  placed : vec_len l.places + 1 ≡ l.counter;
}
