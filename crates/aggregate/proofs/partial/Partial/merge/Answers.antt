use Rattle.std.proofs.Common.{sym, subst}
use Rattle.aggregate.specs.Folding.{AreMerged}
use Rattle.aggregate.specs.States.{IsOf}
use Rattle.aggregate.proofs.FoldLaws.{merge_of, merge_for}
use Rattle.aggregate.proofs.partial.Partial.merge.Goals as goal

pub returns-clause-of : goal.returns-clause-of
returns-clause-of c =
    let merged = subst (λ state. AreMerged c.args.spec.now state c.args.later.state c.in_ok-both.both) c.replace-state.ensures.value c.in_ok-both.ensures.merged in
    λ rows more h g. merge_of c.args.spec.now rows more c.args.self.now.state c.args.later.state c.in_ok-both.both merged h g

pub returns-clause-over : goal.returns-clause-over
returns-clause-over c =
    let merged = subst (λ state. AreMerged c.args.spec.now state c.args.later.state c.in_ok-both.both) c.replace-state.ensures.value c.in_ok-both.ensures.merged in
    λ types is more. merge_for types c.args.spec.now c.args.self.now c.args.later _ merged is more

-- where there is no memory nothing is known any more
pub returns-in_err-both-clause-over : goal.returns-in_err-both-clause-over
returns-in_err-both-clause-over c = λ types first later. record {
  over = first.over;
  rows = first.rows;
  fit = first.fit;
  is = subst (λ state. IsOf c.args.spec.now first.rows (record { state = state })) (sym c.replace-state.ensures.after) tt;
}
