use Rattle.std.proofs.Common.{◌≡◌, ◌+◌, ◌≤◌, All, map, vec_len}
use Rattle.std.specs.Vec.{vec_capacity}
use Rattle.run_core.specs.Receipts.{lists_of}
use Rattle.hand_off_tests.specs.Crew.{IsDone, AreParts}
use Rattle.hand_off_tests.proofs.parts.parts_of.Given as goal

abbrev pub invariant-loop-worker : goal.invariant-loop-worker
invariant-loop-worker l = record {
  seat_count : vec_len l.seats + vec_len l.crew ≡ vec_len l.fn.crew;
  pass_count : vec_len l.passes + vec_len l.crew ≡ vec_len l.fn.crew;
  receipt_count : vec_len l.receipts + vec_len l.crew ≡ vec_len l.fn.crew;
  seat_room : vec_len l.fn.crew ≤ vec_capacity l.seats;
  pass_room : vec_len l.fn.crew ≤ vec_capacity l.passes;
  receipt_room : vec_len l.fn.crew ≤ vec_capacity l.receipts;
  done : All (IsDone l.claims l.hand) l.crew.items;
  parts : AreParts l.claims l.hand l.seats.items l.passes.items (map lists_of l.receipts.items);
}

abbrev pub decreases-loop-worker : goal.decreases-loop-worker
decreases-loop-worker l = vec_len l.crew
