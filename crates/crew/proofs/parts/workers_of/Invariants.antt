use Rattle.std.proofs.Common.{◌≡◌, ◌+◌, ◌≤◌, ◌++◌, [], false, All, length, map, reverse, vec_len}
use Rattle.std.specs.List.{range_with_len}
use Rattle.std.specs.Vec.{vec_capacity}
use Rattle.crew.specs.Labours.{labour_view, IsFresh}
use Rattle.crew.specs.Workers.{IsReady}
use Rattle.crew.proofs.parts.workers_of.Given as goal

abbrev pub invariant-loop-labour : goal.invariant-loop-labour
invariant-loop-labour g l = record {
  seat_count : vec_len l.seats ≡ vec_len l.labours;
  pass_count : vec_len l.passes ≡ vec_len l.labours;
  room : vec_len l.workers + vec_len l.labours ≤ vec_capacity l.workers;
  few : vec_len l.workers + vec_len l.labours ≤ 64;
  capacity : vec_capacity l.labours ≡ vec_capacity l.fn.labours;
  seats_of : All (λ s. s.of ≡ l.claims) l.seats.items;
  seats : All (λ s. (s.numbers ≡ []) × (s.ended ≡ false) × (s.share ≡ 1)) l.seats.items;
  passes_of : All (λ p. p.of ≡ l.hand) l.passes.items;
  passes : All (λ p. (p.offered ≡ []) × (p.taken ≡ []) × (p.share ≡ 1)) l.passes.items;
  fresh : All (IsFresh (λ o. labour_view (g.L.Labour.about o) (g.L.Labour.loaded o) (g.L.Labour.results o) (g.L.Labour.failures o))) l.labours.items;
  all : vec_len l.workers + vec_len l.labours ≡ vec_len l.fn.labours;
  numbers : map (λ w. w.number) l.workers.items ≡ range_with_len 0 (length l.workers.items);
  moved : l.labours.items ++ reverse (map (λ w. w.labour) l.workers.items) ≡ l.fn.labours.items;
  ready : All (IsReady (λ o. labour_view (g.L.Labour.about o) (g.L.Labour.loaded o) (g.L.Labour.results o) (g.L.Labour.failures o)) l.claims l.hand) l.workers.items;
}

abbrev pub decreases-loop-labour : goal.decreases-loop-labour
decreases-loop-labour g l = vec_len l.labours
