use Rattle.std.proofs.Common.{◌∙◌, ◌+◌, ◌<◌, ◌≤◌, sym, arith}
use Rattle.plan_denote.specs.Aggregate.{MAX_INPUT}
use Rattle.aggregate.proofs.FoldLaws.{both_too_many, both_known}
use Rattle.aggregate.proofs.merging.groups_merged.Goals as goal

pub with_later-requires-clause-keeping : goal.with_later-requires-clause-keeping
with_later-requires-clause-keeping c = c.requires.stands.1 ∙ sym c.requires.later.1

pub with_later-requires-clause-few : goal.with_later-requires-clause-few
with_later-requires-clause-few c = omega (arith, c.requires.stands.2)

pub with_later-requires-clause-later_few : goal.with_later-requires-clause-later_few
with_later-requires-clause-later_few c = omega (arith, c.requires.later.2)

pub returns-then-too_many : goal.returns-then-too_many
returns-then-too_many c =
    let over : MAX_INPUT < c.args.groups.rows + c.args.later.now.rows = omega (arith, c.if-too_many.true, c.requires.stands.2) in
    both_too_many c.args.spec.now c.args.groups c.args.later.now over

pub returns : goal.returns
returns c =
    let few : c.args.groups.rows + c.args.later.now.rows ≤ MAX_INPUT = omega (arith, c.if-too_many.false, c.requires.stands.2) in
    let both = c.in_ok-both.ensures in
    both_known c.args.spec.now c.args.groups c.args.later.now c.in_ok-both.both few both.sound both.keeping both.keys both.knows
