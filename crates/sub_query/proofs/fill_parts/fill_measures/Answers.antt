-- One item more.
use Rattle.std.proofs.Common.{◌≡◌, ◌+◌, List, [], ◌∷◌, ◌++◌, sym, subst, arith, rules}
use Rattle.plan_typed.specs.declared.rel.TypedMeasure.{TypedMeasure}
use Rattle.sub_query.specs.Known.{worths_at}
use Rattle.sub_query.proofs.PartLaws.{AreMeasures, measure_more}
use Rattle.sub_query.proofs.fill_parts.fill_measures.Goals as goal

pub loop-measure-preserved : goal.loop-measure-preserved
loop-measure-preserved c =
    let k = worths_at c.args.worths.now in
    let new = c.in_ok-fill_measure.field-0 in
    let pushed : c.push.new.self.items ≡ c.loop-measure.made.items ++ new ∷ [] = search rules in
    subst (λ (made : List (TypedMeasure)). AreMeasures k c.args.next.now c.args.measures.now (c.loop-measure.measure-index + 1) made c.fill_measure.new.next) (sym pushed)
    (measure_more k c.args.next.now c.args.measures.now c.loop-measure.measure-index c.measure-item.result c.measure-item.result c.loop-measure.made.items new c.loop-measure.next c.fill_measure.new.next
    (omega arith) c.measure-item.is c.loop-measure.invariant c.in_ok-fill_measure.ensures.made c.in_ok-fill_measure.ensures.next)
