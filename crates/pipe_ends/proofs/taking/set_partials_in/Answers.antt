use Rattle.std.specs.Vec.Iter.{into_iter_items}
use Rattle.pipe_parts.specs.declared.part.Part.TheVariants as kept
use Rattle.pipe_ends.proofs.EndLaws.{held_more}
use Rattle.pipe_ends.proofs.taking.set_partials_in.Goals as goal

pub loop-part-preserved : goal.loop-part-preserved
loop-part-preserved c =
    let l = c.loop-part in
    held_more kept.Sets l.partials.items c.push.new.self.items c.in_ok-set_partial_in.field-0 c.in-Some.part (into_iter_items l.part-iterator) (into_iter_items c.next.new.self) c.args.parts.items
    c.in-Some.ensures.steps.0 c.in_ok-push.ensures.items c.in_ok-set_partial_in.ensures l.invariant
