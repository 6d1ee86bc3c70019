use Rattle.std.proofs.Common.{subst}
use Rattle.batch.specs.BatchRows.{stream_of_piece}
use Rattle.group_sets.specs.Folding.{IsRead}
use Rattle.group_sets.specs.States.{entries_by}
use Rattle.group_sets.proofs.FoldLaws.{known_ends}
use Rattle.group_sets.proofs.folding.known_folded.Goals as goal

pub with_inputs-requires-clause-part : goal.with_inputs-requires-clause-part
with_inputs-requires-clause-part c =
    let input = stream_of_piece c.args.input.now in
    ((entries_by c.args.spec.now input).rows, (subst (IsRead c.args.spec.now input) c.in-Ok.is c.in_ok-found.ensures).1)

pub returns-in_ok-next-in-Ok-clause-together : goal.returns-in_ok-next-in-Ok-clause-together
returns-in_ok-next-in-Ok-clause-together c =
    let input = stream_of_piece c.args.input.now in
    let read = subst (IsRead c.args.spec.now input) c.in-Ok.is c.in_ok-found.ensures in
    λ s h. c.in_ok-next-in-Ok.ensures.holds s (entries_by c.args.spec.now input) h read.0 read.1

pub returns-in-Err-clause-together : goal.returns-in-Err-clause-together
returns-in-Err-clause-together c =
    let input = stream_of_piece c.args.input.now in
    known_ends c.args.spec.now c.args.sets (entries_by c.args.spec.now input) c.in-Err.fault (subst (IsRead c.args.spec.now input) c.in-Err.is c.in_ok-found.ensures)
