use Rattle.std.proofs.Common.{◌≡◌, ◌<◌, ◌++◌, ◌∷◌, [], List, ℕ, Some, None, slice_get, length, ap, sym, arith, rules, get_or}
use Rattle.std.proofs.lemmas.Option.{slice_get_within}
use Rattle.run_core.specs.Receipts.{Lists}
use Rattle.run_core.specs.Machine.{Machine}
use Rattle.run_core.specs.Memory.{machine_of}
use Rattle.run_core.specs.declared.receipt.Receipt.{Receipt}
use Rattle.run_core.proofs.Ties.{noted}
use Rattle.run_core.proofs.state.State.take.Goals as goal

pub returns-clause-done : goal.returns-clause-done
returns-clause-done c =
    let m : Machine = machine_of c.args.self.now in
    let idle : slice_get m.held c.args.worker ≡ Some None = search rules in
    let there = slice_get_within m.held c.args.worker None idle in
    let r : Receipt = c.index_mut-2.result.now in
    let new : Receipt = record r { taken = c.push_reserved.new.self } in
    let queue = c.in-Some.ensures.items in
    let some : 0 < length m.queue = omega (arith, ap length queue) in
    let front : c.in-Some.number ≡ get_or m.queue 0 0 = sym (ap (λ (l : List ℕ). get_or l 0 0) queue) in
    let lists = noted (λ (l : Lists). record l { taken = l.taken ++ c.in-Some.number ∷ [] }) c.args.self.now.receipts.items c.args.worker r new (omega arith) c.index_mut-2.ensures.value (cc c.push_reserved.ensures.items) in
    ((idle, some), rw (← front) (cc c.in-Some.ensures.rest))
