use Rattle.std.proofs.Common.{◌∙◌, sym, false, length, get_or, arith}
use Rattle.plan_rules.proofs.MarkLaws.{all_below-more, all_below-fails}
use Rattle.plan_rules.proofs.places.are_all_set.Goals as goal

pub loop-place-preserved : goal.loop-place-preserved
loop-place-preserved c =
    all_below-more (λ k. get_or c.args.marks.now k false) c.loop-place.place c.loop-place.invariant (sym c.get.ensures ∙ c.if-not-get.false)

pub returns-then-not-get : goal.returns-then-not-get
returns-then-not-get c =
    sym (all_below-fails (λ k. get_or c.args.marks.now k false) (length c.args.marks.now) c.loop-place.place (omega arith) (sym c.get.ensures ∙ c.if-not-get.true))
