use Rattle.std.proofs.Common.{◌∙◌, ◌+◌, ◌<◌, ◌≤◌, length, sym, ap, subst, arith}
use Rattle.std.specs.List.{All}
use Rattle.plan_denote.specs.Aggregate.{MAX_INPUT}
use Rattle.group_columns.specs.Columns.{IsWhole}
use Rattle.group_tallies.specs.Kept.{keeping_in}
use Rattle.aggregate.specs.States.{keeping}
use Rattle.aggregate.proofs.FoldLaws.{inputs_too_many, inputs_known, kept_many}
use Rattle.aggregate.proofs.folding.with_inputs.Goals as goal

pub with_batch-requires-clause-columns : goal.with_batch-requires-clause-columns
with_batch-requires-clause-columns c = subst (All (λ column. column < length c.args.inputs.now.keys.columns.items)) (sym c.as_slice.ensures.value) c.requires.columns

pub with_batch-requires-clause-all : goal.with_batch-requires-clause-all
with_batch-requires-clause-all c =
    ap length c.as_slice-2.ensures.value ∙ c.requires.all ∙ sym (kept_many keeping_in keeping c.args.groups.columns.items c.args.spec.now.measures.items c.requires.stands.1)

pub with_batch-requires-clause-whole : goal.with_batch-requires-clause-whole
with_batch-requires-clause-whole c = subst (All (IsWhole c.args.inputs.now.keys.rows)) (sym c.as_slice-2.ensures.value) c.requires.whole

pub with_batch-requires-clause-room : goal.with_batch-requires-clause-room
with_batch-requires-clause-room c = omega (arith, c.if-too_many.false, c.requires.stands.2)

pub returns-then-too_many-clause-holds : goal.returns-then-too_many-clause-holds
returns-then-too_many-clause-holds c =
    let over : MAX_INPUT < c.args.groups.rows + c.args.inputs.now.keys.rows = omega (arith, c.if-too_many.true, c.requires.stands.2) in
    λ s more h e part. inputs_too_many c.args.spec.now c.args.groups c.args.inputs.now s more h e part over

pub returns-clause-holds : goal.returns-clause-holds
returns-clause-holds c =
    let few : c.args.groups.rows + c.args.inputs.now.keys.rows ≤ MAX_INPUT = omega (arith, c.if-too_many.false, c.requires.stands.2) in
    let grown = c.in_ok-grown.ensures in
    λ s more h e part.
    inputs_known c.args.spec.now c.args.groups c.in_ok-grown.grown c.args.inputs.now s more h e part few grown.sound grown.keeping
    (rw (sym c.as_slice.ensures.value) grown.keys) (rw (sym c.as_slice.ensures.value, sym c.as_slice-2.ensures.value) grown.knows)
