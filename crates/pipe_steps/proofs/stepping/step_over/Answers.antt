use Rattle.std.proofs.Common.{[], ◌∷◌, subst}
use Rattle.batch.specs.BatchRows.{types_of}
use Rattle.plan_pipes.specs.declared.pipe.Step.{Step}
use Rattle.pipe_types.specs.Over.{IsStepOver}
use Rattle.pipe_steps.specs.Ready.{IsReady}
use Rattle.pipe_steps.specs.Tables.{joins_of}
use Rattle.pipe_steps.proofs.ArmLaws.{filter_given, project_given, keep_given, probe_given}
use Rattle.pipe_steps.proofs.JoinedLaws.{probe_over, rest_over}
use Rattle.pipe_steps.proofs.stepping.step_over.Goals as goal

pub returns-in-Filter-clause-fit : goal.returns-in-Filter-clause-fit
returns-in-Filter-clause-fit c =
    let P : Step → Type 0 = λ step. IsReady (step ∷ []) c.args.piece.batch in
    filter_given c.in-Filter.relation c.in-Filter.condition c.args.piece c.filter.result c.filter.ensures.types c.filter.ensures.stream (subst P c.in-Filter.is c.requires.ready)

pub returns-in-Project-clause-fit : goal.returns-in-Project-clause-fit
returns-in-Project-clause-fit c =
    let P : Step → Type 0 = λ step. IsReady (step ∷ []) c.args.piece.batch in
    let over = subst (IsStepOver (joins_of c.args.tables.now) (types_of c.args.piece.batch)) c.in-Project.is c.requires.over in
    project_given c.in-Project.relation c.in-Project.exprs c.as_slice-in-Project.result.now c.as_slice-in-Project.ensures c.args.piece c.project.result over c.project.ensures.types c.project.ensures.stream (subst P c.in-Project.is c.requires.ready)

pub returns-in-Keep-clause-fit : goal.returns-in-Keep-clause-fit
returns-in-Keep-clause-fit c =
    let P : Step → Type 0 = λ step. IsReady (step ∷ []) c.args.piece.batch in
    let over = subst (IsStepOver (joins_of c.args.tables.now) (types_of c.args.piece.batch)) c.in-Keep.is c.requires.over in
    keep_given c.in-Keep.columns c.as_slice-in-Keep.result.now c.as_slice-in-Keep.ensures c.args.piece c.keep.result over c.keep.ensures.types c.keep.ensures.stream (subst P c.in-Keep.is c.requires.ready)

pub probe-requires-clause-typed : goal.probe-requires-clause-typed
probe-requires-clause-typed c =
    let given = types_of c.args.piece.batch in
    let over = subst (IsStepOver (joins_of c.args.tables.now) given) c.in-Probe.is c.requires.over in
    rest_over c.args.tables.now c.in-Probe.built c.index-tables-built.result given c.index-tables-built.is over

pub returns-in-Probe-clause-fit : goal.returns-in-Probe-clause-fit
returns-in-Probe-clause-fit c =
    let P : Step → Type 0 = λ step. IsReady (step ∷ []) c.args.piece.batch in
    let given = types_of c.args.piece.batch in
    let over = subst (IsStepOver (joins_of c.args.tables.now) given) c.in-Probe.is c.requires.over in
    let table = c.index-tables-built.result in
    probe_given table c.args.piece c.probe.result (probe_over c.args.tables.now c.in-Probe.built table given c.index-tables-built.is over) c.probe.ensures.types c.probe.ensures.stream (subst P c.in-Probe.is c.requires.ready)
