use Rattle.std.proofs.Common.{refl, sym, subst}
use Rattle.group_sets.specs.Folding.{AreMerged}
use Rattle.group_sets.specs.States.{Stands}
use Rattle.group_sets.proofs.FoldLaws.{for_stands, merge_of, merge_for}
use Rattle.group_sets.proofs.partial.SetsPartial.merge.Goals as goal

pub merged-requires-clause-stands : goal.merged-requires-clause-stands
merged-requires-clause-stands c = subst (Stands c.args.spec.now) (sym c.replace-state.ensures.value) (for_stands c.requires.over.0 c.args.spec.now c.args.self.now c.requires.over.1)

pub merged-requires-clause-later : goal.merged-requires-clause-later
merged-requires-clause-later c = for_stands c.requires.over.0 c.args.spec.now c.args.later c.requires.over.2

pub returns-clause-of : goal.returns-clause-of
returns-clause-of c =
    let merged = subst (λ state. AreMerged c.args.spec.now state c.args.later.state c.in_ok-both.both) c.replace-state.ensures.value c.in_ok-both.ensures.merged in
    λ rows more h g. merge_of c.args.spec.now rows more c.args.self.now.state c.args.later.state c.in_ok-both.both merged h g

pub returns-clause-over : goal.returns-clause-over
returns-clause-over c =
    let merged = subst (λ state. AreMerged c.args.spec.now state c.args.later.state c.in_ok-both.both) c.replace-state.ensures.value c.in_ok-both.ensures.merged in
    λ types is more. merge_for types c.args.spec.now c.args.self.now c.args.later _ merged refl is more
