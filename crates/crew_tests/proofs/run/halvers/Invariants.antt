use Rattle.std.proofs.Common.{◌≡◌, ◌≤◌, All, vec_len}
use Rattle.std.specs.Vec.{vec_capacity}
use Rattle.crew_tests.specs.Halvers.{IsNew}
use Rattle.crew_tests.proofs.run.halvers.Given as goal

abbrev pub invariant-loop : goal.invariant-loop
invariant-loop l = record {
  count : vec_len l.labours ≡ l.counter;
  room : l.workers ≤ vec_capacity l.labours;
  fresh : All IsNew l.labours.items;
}
