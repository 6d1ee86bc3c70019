use Rattle.std.proofs.Common.{◌≡◌, ◌++◌, ◌∷◌, [], Some, None, slice_get, arith, rules}
use Rattle.std.proofs.lemmas.Option.{slice_get_within}
use Rattle.run_core.specs.Receipts.{Lists}
use Rattle.run_core.specs.Machine.{Machine}
use Rattle.run_core.specs.Memory.{machine_of}
use Rattle.run_core.specs.declared.receipt.Receipt.{Receipt}
use Rattle.run_core.proofs.Ties.{noted}
use Rattle.run_core.proofs.state.State.claim.Goals as goal

pub returns-clause-done : goal.returns-clause-done
returns-clause-done c =
    let m : Machine = machine_of c.args.self.now in
    let idle : slice_get m.held c.args.worker ≡ Some None = search rules in
    let there = slice_get_within m.held c.args.worker None idle in
    let r : Receipt = c.index_mut-2.result.now in
    let new : Receipt = record r { claimed = c.push_reserved.new.self } in
    let lists = noted (λ (l : Lists). record l { claimed = l.claimed ++ m.next ∷ [] }) c.args.self.now.receipts.items c.args.worker r new (omega arith) c.index_mut-2.ensures.value (cc c.push_reserved.ensures.items) in
    ((idle, omega arith), cc)
