use Rattle.std.proofs.Common.{◌∙◌, ◌<◌, ◌≤◌, length, map, sym, ap, ap₂, subst, List}
use Rattle.std.specs.List.{All}
use Rattle.plan_typed.specs.declared.expr.Expr.{Expr}
use Rattle.plan_typed.specs.declared.rel.SetMeasure.{SetMeasure}
use Rattle.plan_typed.specs.declared.rel.TypedMeasure.{TypedMeasure}
use Rattle.batch.specs.BatchRows.{stream_of_piece, types_of}
use Rattle.well_typed.specs.ExprTyped.{IsTypedOver}
use Rattle.group_columns.specs.Columns.{IsWhole}
use Rattle.group_inputs.specs.Inputs.{entries_at, IsEvaluated, AreInputs}
use Rattle.set_inputs.specs.Inputs as over
use Rattle.std.proofs.lemmas.List.{length-map}
use Rattle.set_states.specs.States.{measure_in}
use Rattle.group_sets.specs.States.{width_of}
use Rattle.group_sets.specs.Folding.{IsRead}
use Rattle.group_sets.proofs.FoldLaws.{read_fault, read_all, are_columns}
use Rattle.group_sets.proofs.folding.read.Goals as goal

pub inputs_of-requires-clause-groups : goal.inputs_of-requires-clause-groups
inputs_of-requires-clause-groups c = subst (All (IsTypedOver (types_of c.args.input.now.batch))) (sym c.as_slice.ensures.value) c.requires.groups

pub inputs_over_sets-requires-clause-all : goal.inputs_over_sets-requires-clause-all
inputs_over_sets-requires-clause-all c =
    let is = subst (IsEvaluated c.as_slice.result.now c.args.plain.now c.args.input.now.batch) c.in-All.is c.in_ok-found.ensures in
    is.all ∙ ap length c.requires.plain ∙ length-map c.args.spec.now.measures.items measure_in ∙ sym (ap length c.as_slice-measures.ensures.value)

pub inputs_over_sets-requires-clause-whole : goal.inputs_over_sets-requires-clause-whole
inputs_over_sets-requires-clause-whole c =
    let is = subst (IsEvaluated c.as_slice.result.now c.args.plain.now c.args.input.now.batch) c.in-All.is c.in_ok-found.ensures in
    subst (λ n. All (IsWhole n) c.in-All.inputs.taken.items) (sym is.rows) is.whole

pub returns-in-Fault : goal.returns-in-Fault
returns-in-Fault c =
    let piece = c.args.input.now in
    let is = subst (IsEvaluated c.as_slice.result.now c.args.plain.now piece.batch) c.in-Fault.is c.in_ok-found.ensures in
    read_fault c.args.spec.now piece c.in-Fault.kind (ap₂ (λ (groups : List Expr) (measures : List TypedMeasure). (entries_at groups measures piece.batch).stop) (sym c.as_slice.ensures.value) (sym c.requires.plain) ∙ is)

pub returns-in_ok-given-in-All : goal.returns-in_ok-given-in-All
returns-in_ok-given-in-All c =
    let piece = c.args.input.now in
    let spec = c.args.spec.now in
    let inputs = c.in-All.inputs in
    let plain = map measure_in spec.measures.items in
    let given = c.in_ok-given-in-All.given in
    let is = subst (IsEvaluated c.as_slice.result.now c.args.plain.now piece.batch) c.in-All.is c.in_ok-found.ensures in
    let own = subst (λ (measures : List TypedMeasure). AreInputs spec.groups.items measures piece.batch inputs) c.requires.plain
    (subst (λ (groups : List Expr). AreInputs groups c.args.plain.now piece.batch inputs) c.as_slice.ensures.value is) in
    let entries = (entries_at spec.groups.items plain piece.batch).values in
    let there : width_of spec ≤ length inputs.keys.columns.items =
    are_columns (width_of spec) (length inputs.keys.columns.items) (subst (All (λ column. column < length inputs.keys.columns.items)) own.places own.columns) in
    let are = subst (λ (measures : List SetMeasure). over.AreInputs (width_of spec) measures entries given) c.as_slice-measures.ensures.value
    (c.in_ok-given-in-All.ensures.inputs (width_of spec) entries own.places there own.entries) in
    subst (IsRead spec (stream_of_piece piece)) (sym c.unless_ended.ensures) (read_all spec piece given own.none are)
