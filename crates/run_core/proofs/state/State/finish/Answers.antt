use Rattle.std.proofs.Common.{◌≡◌, ◌++◌, ◌∷◌, [], Some, None, arith}
use Rattle.std.proofs.lemmas.Option.{get_or_from_slice_get, slice_get_within}
use Rattle.run_core.specs.Receipts.{Lists}
use Rattle.run_core.specs.Machine.{Machine, held_by}
use Rattle.run_core.specs.Memory.{machine_of}
use Rattle.run_core.specs.declared.event.Held.TheVariants.{Due}
use Rattle.run_core.specs.declared.receipt.Receipt.{Receipt}
use Rattle.run_core.proofs.Ties.{noted}
use Rattle.run_core.proofs.state.State.finish.Goals as goal

pub returns-clause-done : goal.returns-clause-done
returns-clause-done c =
    let m : Machine = machine_of c.args.self.now in
    let there = slice_get_within m.held c.args.worker (Some (Due c.in-Some.number)) c.in-Some.ensures in
    let r : Receipt = c.index_mut-2.result.now in
    let new : Receipt = record r { finished = c.push_reserved.new.self } in
    let held : held_by m c.args.worker ≡ Some (Due c.in-Some.number) = get_or_from_slice_get m.held c.args.worker (Some (Due c.in-Some.number)) None c.in-Some.ensures in
    let lists = noted (λ (l : Lists). record l { finished = l.finished ++ c.in-Some.number ∷ [] }) c.args.self.now.receipts.items c.args.worker r new (omega arith) c.index_mut-2.ensures.value (cc c.push_reserved.ensures.items) in
    ((c.in-Some.number, c.in-Some.ensures), rw held cc)
