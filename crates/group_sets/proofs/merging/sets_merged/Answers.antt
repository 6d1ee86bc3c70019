use Rattle.std.proofs.Common.{◌+◌, ◌<◌, ◌++◌, List, sym, subst, arith}
use Rattle.plan_typed.specs.declared.rel.SetMeasure.{SetMeasure}
use Rattle.plan_denote.specs.Aggregate.{MAX_INPUT}
use Rattle.plan_pipes.specs.RowMeaning.{sets_of}
use Rattle.set_states.specs.States.{AreKnown}
use Rattle.group_sets.specs.States.{width_of}
use Rattle.group_sets.proofs.FoldLaws.{both_too_many, both_known}
use Rattle.group_sets.proofs.merging.sets_merged.Goals as goal

pub with_later-requires-clause-known : goal.with_later-requires-clause-known
with_later-requires-clause-known c =
    let spec = c.args.spec.now in
    let was = c.requires.later in
    let is = c.requires.stands in
    let measures = sym c.as_slice.ensures.value in (
      width_of spec,
      sets_of spec,
      is.0,
      was.0,
      subst (λ (l : List SetMeasure). AreKnown (width_of spec) l (sets_of spec) is.0 c.args.sets) measures is.1,
      subst (λ (l : List SetMeasure). AreKnown (width_of spec) l (sets_of spec) was.0 c.args.later.now) measures was.1,
    )

pub with_later-requires-clause-few : goal.with_later-requires-clause-few
with_later-requires-clause-few c = omega (arith, c.if-too_many.false, c.requires.stands.1.rows, c.requires.stands.1.few)

pub returns-then-too_many : goal.returns-then-too_many
returns-then-too_many c =
    let over : MAX_INPUT < c.args.sets.rows + c.args.later.now.rows = omega (arith, c.if-too_many.true, c.requires.stands.1.rows, c.requires.stands.1.few) in
    both_too_many c.args.spec.now c.args.sets c.args.later.now over

pub returns : goal.returns
returns c =
    let spec = c.args.spec.now in
    let both = c.in_ok-both.both in
    let measures = c.as_slice.ensures.value in
    both_known spec c.args.sets c.args.later.now both (λ entries more known was.
    subst (λ (l : List SetMeasure). AreKnown (width_of spec) l (sets_of spec) (entries ++ more) both) measures
    (c.in_ok-both.ensures (width_of spec) (sets_of spec) entries more
    (subst (λ (l : List SetMeasure). AreKnown (width_of spec) l (sets_of spec) entries c.args.sets) (sym measures) known)
    (subst (λ (l : List SetMeasure). AreKnown (width_of spec) l (sets_of spec) more c.args.later.now) (sym measures) was)))
