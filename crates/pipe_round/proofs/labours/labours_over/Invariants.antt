use Rattle.std.proofs.Common.{◌≡◌, ◌≤◌, All, vec_len}
use Rattle.std.specs.Vec.{vec_capacity}
use Rattle.pipe_round.specs.Unused.{IsUnused}
use Rattle.pipe_round.proofs.labours.labours_over.Given as goal

abbrev pub invariant-loop : goal.invariant-loop
invariant-loop l = record {
  count : vec_len l.labours ≡ l.counter;
  room : l.workers ≤ vec_capacity l.labours;
  unused : All (λ o. IsUnused l.pieces o.source.pieces.now o.source.loaded.items o.outs.items) l.labours.items;
}
