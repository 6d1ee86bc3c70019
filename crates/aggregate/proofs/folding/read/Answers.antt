use Rattle.std.proofs.Common.{◌∙◌, sym, ap₂, subst, List}
use Rattle.std.specs.List.{All}
use Rattle.plan_typed.specs.declared.expr.Expr.{Expr}
use Rattle.plan_typed.specs.declared.rel.TypedMeasure.{TypedMeasure}
use Rattle.batch.specs.BatchRows.{stream_of_piece, types_of}
use Rattle.well_typed.specs.ExprTyped.{IsTypedOver}
use Rattle.well_typed.specs.WellTyped.{IsMeasureOver}
use Rattle.group_inputs.specs.Inputs.{entries_at, IsEvaluated, AreInputs}
use Rattle.aggregate.specs.Folding.{IsRead}
use Rattle.aggregate.proofs.FoldLaws.{read_fault, read_all}
use Rattle.aggregate.proofs.folding.read.Goals as goal

pub inputs_of-requires-clause-groups : goal.inputs_of-requires-clause-groups
inputs_of-requires-clause-groups c = subst (All (IsTypedOver (types_of c.args.input.now.batch))) (sym c.as_slice.ensures.value) c.requires.groups

pub inputs_of-requires-clause-measures : goal.inputs_of-requires-clause-measures
inputs_of-requires-clause-measures c = subst (All (IsMeasureOver (types_of c.args.input.now.batch))) (sym c.as_slice-2.ensures.value) c.requires.measures

pub returns-in-Fault : goal.returns-in-Fault
returns-in-Fault c =
    let piece = c.args.input.now in
    let is = subst (IsEvaluated c.as_slice.result.now c.as_slice-2.result.now piece.batch) c.in-Fault.is c.in_ok-found.ensures in
    read_fault c.args.spec.now piece c.in-Fault.kind (ap₂ (λ (groups : List Expr) (measures : List TypedMeasure). (entries_at groups measures piece.batch).stop) (sym c.as_slice.ensures.value) (sym c.as_slice-2.ensures.value) ∙ is)

pub returns-in-All : goal.returns-in-All
returns-in-All c =
    let piece = c.args.input.now in
    let spec = c.args.spec.now in
    let is = subst (IsEvaluated c.as_slice.result.now c.as_slice-2.result.now piece.batch) c.in-All.is c.in_ok-found.ensures in
    let own = subst (λ (measures : List TypedMeasure). AreInputs spec.groups.items measures piece.batch c.in-All.inputs) c.as_slice-2.ensures.value
    (subst (λ (groups : List Expr). AreInputs groups c.as_slice-2.result.now piece.batch c.in-All.inputs) c.as_slice.ensures.value is) in
    subst (IsRead spec (stream_of_piece piece)) (sym c.unless_ended.ensures) (read_all spec piece c.in-All.inputs own)
