use Rattle.std.proofs.Common.{◌∙◌, List, sym, ap, subst}
use Rattle.std.specs.List.{All}
use Rattle.sub_types.specs.declared.kind.Ty.{Ty}
use Rattle.sub_types.specs.Kind.{IsKind}
use Rattle.sub_types.specs.Stream.{Stream}
use Rattle.sub_types.specs.Value.{Fits}
use Rattle.plan_denote.specs.Computed.{Row}
use Rattle.group_sets.specs.Finals.{types_by}
use Rattle.group_sets.proofs.FoldLaws.{for_stands}
use Rattle.group_sets.proofs.FinalLaws.{final_of, piece_of_rows}
use Rattle.group_sets.proofs.TypeLaws.{kinds_are, rows_fit}
use Rattle.group_sets.proofs.partial.SetsPartial.finals.Goals as goal

pub state_rows-requires : goal.state_rows-requires
state_rows-requires c = for_stands c.requires.over.0 c.args.spec.now c.args.self c.requires.over.1

pub rows_to_batch-requires-clause-kinds : goal.rows_to_batch-requires-clause-kinds
rows_to_batch-requires-clause-kinds c =
    subst (All (λ (ty : Ty). IsKind ty.kind)) (sym (c.as_slice.ensures.value ∙ c.in_ok-types.ensures)) (kinds_are c.requires.over.0 c.args.spec.now c.requires.over.1.over)

pub rows_to_batch-requires-clause-fit : goal.rows_to_batch-requires-clause-fit
rows_to_batch-requires-clause-fit c =
    let is = c.requires.over.1 in
    let spec = c.args.spec.now in
    let own = ap (λ (s : Stream Row). s.rows) (final_of spec is.rows c.args.self.state c.in_ok-out.out c.in_ok-out.ensures.rows is.is) in
    subst (λ (types : List Ty). All (Fits types) c.as_slice-2.result.now) (sym (c.as_slice.ensures.value ∙ c.in_ok-types.ensures))
    (subst (All (Fits (types_by spec))) (sym (c.as_slice-2.ensures.value ∙ own)) (rows_fit c.requires.over.0 spec is.over is.rows is.fit))

pub returns-clause-stream : goal.returns-clause-stream
returns-clause-stream c = λ rows h. piece_of_rows c.args.spec.now rows c.args.self.state c.in_ok-out.out c.in_ok-batch.batch (c.in_ok-batch.ensures.rows ∙ c.as_slice-2.ensures.value) c.in_ok-out.ensures.rows h

pub returns-clause-lost : goal.returns-clause-lost
returns-clause-lost c = λ lost. let found = c.in_ok-out.ensures.found in absurd (cc (lost, found))
