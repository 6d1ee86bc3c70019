use Rattle.std.proofs.Common.{◌≡◌, ◌+◌, ◌≤◌, [], All, sum_by, vec_len}
use Rattle.std.specs.Vec.{vec_capacity}
use Rattle.hand_off.proofs.hand.HandOff.deal.Given as goal

abbrev pub invariant-loop : goal.invariant-loop
invariant-loop g l = record {
  mine : l.first.of ≡ l.self;
  fresh : (l.first.offered ≡ []) × (l.first.taken ≡ []);
  of : All (λ p. p.of ≡ l.self) l.places.items;
  each : All (λ p. (p.offered ≡ []) × (p.taken ≡ []) × (p.share ≡ 1)) l.places.items;
  shares : l.first.share + vec_len l.places ≡ l.passes;
  whole : sum_by (λ p. p.share) l.places.items + l.first.share ≡ l.passes;
  placed : vec_len l.places + 1 ≡ l.counter;
  room : l.passes ≤ vec_capacity l.places;
}
