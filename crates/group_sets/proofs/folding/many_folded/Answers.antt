use Rattle.std.proofs.Common.{sym, subst}
use Rattle.batch.specs.BatchRows.{stream_of_piece}
use Rattle.group_sets.specs.Folding.{AreTogether}
use Rattle.group_sets.specs.States.{entries_by}
use Rattle.group_sets.specs.declared.state.State.TheVariants as states
use Rattle.group_sets.proofs.FoldLaws.{many_after_read, never_lost}
use Rattle.group_sets.proofs.folding.many_folded.Goals as goal

pub returns-clause-together : goal.returns-clause-together
returns-clause-together c =
    let input = stream_of_piece c.args.input.now in
    subst (AreTogether c.args.spec.now states.TooMany (entries_by c.args.spec.now input)) (sym c.many_after.ensures) (many_after_read c.args.spec.now input c.in_ok-found.found c.in_ok-found.ensures)

pub returns-clause-found : goal.returns-clause-found
returns-clause-found c = never_lost c.in_ok-found.found c.many_after.result c.many_after.ensures
