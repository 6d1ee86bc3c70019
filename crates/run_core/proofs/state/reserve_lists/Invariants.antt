use Rattle.std.proofs.Common.{◌≡◌, map, All, take}
use Rattle.run_core.specs.Receipts.{lists_of}
use Rattle.run_core.specs.Memory.{HasRoom}
use Rattle.run_core.proofs.state.reserve_lists.Given as goal

abbrev pub invariant-loop-receipt : goal.invariant-loop-receipt
invariant-loop-receipt l = record {
  lists : map lists_of l.receipts ≡ map lists_of l.initial.receipts;
  room : All HasRoom (take l.receipt-index l.receipts);
}
