-- One item more.
use Rattle.std.proofs.Common.{◌≡◌, ◌+◌, List, [], ◌∷◌, ◌++◌, sym, subst, arith, rules}
use Rattle.plan_typed.specs.declared.rel.SetMeasure.{SetMeasure}
use Rattle.sub_query.specs.Known.{worths_at}
use Rattle.sub_query.proofs.PartLaws.{AreSetMeasures, set_measure_more}
use Rattle.sub_query.proofs.fill_parts.fill_set_measures.Goals as goal

pub loop-one-preserved : goal.loop-one-preserved
loop-one-preserved c =
    let k = worths_at c.args.worths.now in
    let new = c.in_ok-fill_set_measure.field-0 in
    let pushed : c.push.new.self.items ≡ c.loop-one.made.items ++ new ∷ [] = search rules in
    subst (λ (made : List (SetMeasure)). AreSetMeasures k c.args.next.now c.args.measures.now (c.loop-one.one-index + 1) made c.fill_set_measure.new.next) (sym pushed)
    (set_measure_more k c.args.next.now c.args.measures.now c.loop-one.one-index c.one-item.result c.one-item.result c.loop-one.made.items new c.loop-one.next c.fill_set_measure.new.next
    (omega arith) c.one-item.is c.loop-one.invariant c.in_ok-fill_set_measure.ensures.made c.in_ok-fill_set_measure.ensures.next)
