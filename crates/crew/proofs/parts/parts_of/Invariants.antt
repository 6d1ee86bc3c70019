use Rattle.std.proofs.Common.{◌≡◌, ◌+◌, ◌≤◌, ◌++◌, true, All, IsSome, map, reverse, vec_len}
use Rattle.std.specs.Vec.{vec_capacity}
use Rattle.run_core.specs.Receipts.{lists_of}
use Rattle.crew.specs.Workers.{lists_in}
use Rattle.crew.proofs.parts.parts_of.Given as goal

abbrev pub invariant-loop-worker : goal.invariant-loop-worker
invariant-loop-worker g l = record {
  labour_count : vec_len l.labours + vec_len l.workers ≤ vec_capacity l.labours;
  seat_count : vec_len l.seats + vec_len l.workers ≤ vec_capacity l.seats;
  pass_count : vec_len l.passes + vec_len l.workers ≤ vec_capacity l.passes;
  receipt_count : vec_len l.receipts + vec_len l.workers ≤ vec_capacity l.receipts;
  capacity : vec_capacity l.labours ≡ vec_capacity l.fn.labours;
  labours : l.labours.items ++ reverse (map (λ w. w.labour) l.workers.items) ≡ reverse (map (λ w. w.labour) l.fn.workers.items);
  seats : l.seats.items ++ reverse (map (λ w. w.seat) l.workers.items) ≡ reverse (map (λ w. w.seat) l.fn.workers.items);
  passes : l.passes.items ++ reverse (map (λ w. w.pass) l.workers.items) ≡ reverse (map (λ w. w.pass) l.fn.workers.items);
  receipts : l.complete ≡ true → map lists_of l.receipts.items ++ reverse (map (λ w. lists_in w.receipt) l.workers.items) ≡ reverse (map (λ w. lists_in w.receipt) l.fn.workers.items);
  complete : l.complete ≡ true → All (λ w. IsSome w.receipt) l.workers.items → All (λ w. IsSome w.receipt) l.fn.workers.items;
}

abbrev pub decreases-loop-worker : goal.decreases-loop-worker
decreases-loop-worker g l = vec_len l.workers
