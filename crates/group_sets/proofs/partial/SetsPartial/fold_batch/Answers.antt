use Rattle.std.proofs.Common.{◌∙◌, refl, sym, subst}
use Rattle.std.specs.List.{All}
use Rattle.well_typed.specs.ExprTyped.{IsTypedOver}
use Rattle.well_typed.specs.WellTyped.{IsMeasureOver}
use Rattle.sub_types.specs.Stream.{followed_by}
use Rattle.batch.specs.BatchRows.{stream_of_piece, types_of}
use Rattle.group_sets.specs.Folding.{AreTogether}
use Rattle.group_sets.specs.States.{Stands, entries_by}
use Rattle.group_sets.proofs.FoldLaws.{for_stands, fold_of, end_of, fold_for}
use Rattle.aggregate.proofs.TypeLaws.{each}
use Rattle.group_sets.proofs.TypeLaws.{plain_over}
use Rattle.group_sets.proofs.partial.SetsPartial.fold_batch.Goals as goal

pub folded-requires-clause-stands : goal.folded-requires-clause-stands
folded-requires-clause-stands c = subst (Stands c.args.spec.now) (sym c.replace-state.ensures.value) (for_stands (types_of c.args.input.now.batch) c.args.spec.now c.args.self.now c.requires.over)

pub folded-requires-clause-groups : goal.folded-requires-clause-groups
folded-requires-clause-groups c = each (IsTypedOver (types_of c.args.input.now.batch)) c.args.spec.now.groups.items c.requires.over.over.groups

pub folded-requires-clause-plain : goal.folded-requires-clause-plain
folded-requires-clause-plain c = c.as_slice.ensures.value ∙ c.requires.over.plain

pub folded-requires-clause-measures : goal.folded-requires-clause-measures
folded-requires-clause-measures c =
    subst (All (IsMeasureOver (types_of c.args.input.now.batch))) (sym (c.as_slice.ensures.value ∙ c.requires.over.plain)) (plain_over (types_of c.args.input.now.batch) c.args.spec.now c.requires.over.over)

pub returns-clause-of : goal.returns-clause-of
returns-clause-of c =
    let more = stream_of_piece c.args.input.now in
    let together = subst (λ state. AreTogether c.args.spec.now state (entries_by c.args.spec.now more) c.in_ok-next.next) c.replace-state.ensures.value c.in_ok-next.ensures.together in
    λ rows h. fold_of c.args.spec.now rows more c.args.self.now.state c.in_ok-next.next together h

pub returns-clause-over : goal.returns-clause-over
returns-clause-over c =
    let more = stream_of_piece c.args.input.now in
    let together = subst (λ state. AreTogether c.args.spec.now state (entries_by c.args.spec.now more) c.in_ok-next.next) c.replace-state.ensures.value c.in_ok-next.ensures.together in
    fold_for (types_of c.args.input.now.batch) c.args.spec.now c.args.input.now c.args.self.now _ c.requires.fit together refl c.requires.over

pub returns-clause-end : goal.returns-clause-end
returns-clause-end c =
    let more = stream_of_piece c.args.input.now in
    let together = subst (λ state. AreTogether c.args.spec.now state (entries_by c.args.spec.now more) c.in_ok-next.next) c.replace-state.ensures.value c.in_ok-next.ensures.together in
    λ rows h. c.end.ensures ∙ end_of c.args.spec.now (entries_by c.args.spec.now (followed_by rows more)) c.in_ok-next.next (fold_of c.args.spec.now rows more c.args.self.now.state c.in_ok-next.next together h) c.in_ok-next.ensures.found
