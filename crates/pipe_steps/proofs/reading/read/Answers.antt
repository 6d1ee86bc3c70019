use Rattle.std.proofs.Common.{◌∙◌, length, sym, ap, subst}
use Rattle.well_typed.specs.WellTyped.{AreBelow}
use Rattle.plan_denote.specs.Denote.{maybe_condition}
use Rattle.plan_denote.specs.Filter.{filtered}
use Rattle.plan_denote.specs.Project.{emitted}
use Rattle.sub_types.specs.declared.kind.Ty.{Ty}
use Rattle.std.proofs.Common.{List}
use Rattle.batch.specs.BatchRows.{stream_of_piece}
use Rattle.pipe_steps.proofs.ReadLaws.{read_in_steps}
use Rattle.pipe_steps.proofs.StepLaws.{fits_typed, filter_fits, keep_fits}
use Rattle.pipe_steps.proofs.reading.read.Goals as goal

pub returns-clause-stream : goal.returns-clause-stream
returns-clause-stream c =
    let condition = maybe_condition c.args.condition.now in
    c.in_ok-kept.ensures.stream ∙ ap (emitted c.args.mask.now) (c.in_ok-chosen.ensures.stream ∙ ap (filtered c.args.relation condition) c.in_ok-tested.ensures.stream)
    ∙ read_in_steps c.args.relation c.args.types.now condition c.args.mask.now (stream_of_piece c.args.input)

pub returns-clause-fit : goal.returns-clause-fit
returns-clause-fit c =
    let condition = maybe_condition c.args.condition.now in
    let tested = c.in_ok-tested.tested in
    let chosen = c.in_ok-chosen.chosen in
    let kept = c.in_ok-kept.kept in
    let P : List Ty → Type 0 = λ types. AreBelow (length types) c.args.mask.now in
    keep_fits c.args.mask.now chosen kept (subst P (sym (c.in_ok-chosen.ensures.types ∙ c.in_ok-tested.ensures.types)) c.requires.places) c.in_ok-kept.ensures.types c.in_ok-kept.ensures.stream
    (filter_fits c.args.relation condition tested chosen c.in_ok-chosen.ensures.types c.in_ok-chosen.ensures.stream (fits_typed c.args.types.now tested.batch c.in_ok-tested.ensures.types c.in_ok-tested.ensures.fit))
