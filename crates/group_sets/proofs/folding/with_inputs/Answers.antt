use Rattle.std.proofs.Common.{◌≡◌, ◌∙◌, ◌+◌, ◌<◌, ◌++◌, length, arith}
use Rattle.std.specs.Vec.{vec_len}
use Rattle.plan_denote.specs.Aggregate.{MAX_INPUT}
use Rattle.group_sets.specs.States.{width_of}
use Rattle.group_sets.proofs.FoldLaws.{inputs_too_many, inputs_known, known_as, known_so, part_as}
use Rattle.group_sets.proofs.folding.with_inputs.Goals as goal

pub with_inputs-requires-clause-known : goal.with_inputs-requires-clause-known
with_inputs-requires-clause-known c =
    let spec = c.args.spec.now in
    let same : vec_len spec.groups ≡ length spec.groups.items = omega (arith, spec.groups.ok.0) in
    (c.requires.stands.0, known_as spec c.requires.stands.0 c.args.sets c.len.result c.as_slice.result.now c.as_slice-2.result.now (c.len.ensures ∙ same) c.as_slice.ensures.value c.as_slice-2.ensures.value c.requires.stands.1)

pub with_inputs-requires-clause-inputs : goal.with_inputs-requires-clause-inputs
with_inputs-requires-clause-inputs c =
    let spec = c.args.spec.now in
    let same : vec_len spec.groups ≡ length spec.groups.items = omega (arith, spec.groups.ok.0) in
    (c.requires.part.0, part_as spec c.requires.part.0 c.args.given.now c.len.result c.as_slice-2.result.now (c.len.ensures ∙ same) c.as_slice-2.ensures.value c.requires.part.1)

pub with_inputs-requires-clause-few : goal.with_inputs-requires-clause-few
with_inputs-requires-clause-few c = omega (arith, c.if-too_many.false, c.requires.stands.1.rows, c.requires.stands.1.few)

pub returns-then-too_many-clause-holds : goal.returns-then-too_many-clause-holds
returns-then-too_many-clause-holds c =
    let over : MAX_INPUT < c.args.sets.rows + c.args.given.now.batch.rows = omega (arith, c.if-too_many.true, c.requires.stands.1.rows, c.requires.stands.1.few) in
    λ s more h e part. inputs_too_many c.args.spec.now c.args.sets c.args.given.now s more h e part over

pub returns-clause-holds : goal.returns-clause-holds
returns-clause-holds c =
    let spec = c.args.spec.now in
    let sets = c.args.sets in
    let grown = c.in_ok-grown.grown in
    let given = c.args.given.now in
    let places = c.as_slice.result.now in
    let measures = c.as_slice-2.result.now in
    let same : vec_len spec.groups ≡ length spec.groups.items = omega (arith, spec.groups.ok.0) in
    let width : c.len.result ≡ width_of spec = c.len.ensures ∙ same in
    λ s more h e part.
    inputs_known spec sets grown given s more h e part (λ entries later known own.
    known_so spec (entries ++ later) grown c.len.result places measures width c.as_slice.ensures.value c.as_slice-2.ensures.value
    (c.in_ok-grown.ensures entries later (known_as spec entries sets c.len.result places measures width c.as_slice.ensures.value c.as_slice-2.ensures.value known) (part_as spec later given c.len.result measures width c.as_slice-2.ensures.value own)))
