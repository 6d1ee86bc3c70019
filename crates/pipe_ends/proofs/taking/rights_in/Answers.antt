use Rattle.std.specs.List.{flat_map}
use Rattle.std.specs.Vec.Iter.{into_iter_items}
use Rattle.pipe_ends.specs.Held.{right_in}
use Rattle.pipe_ends.proofs.EndLaws.{flat_more}
use Rattle.pipe_ends.proofs.taking.rights_in.Goals as goal

pub loop-part-preserved : goal.loop-part-preserved
loop-part-preserved c =
    let l = c.loop-part in
    flat_more right_in l.rights.items c.push.new.self.items c.in_ok-right_in.field-0 c.in-Some.part (into_iter_items l.part-iterator) (into_iter_items c.next.new.self) (flat_map right_in c.args.parts.items)
    c.in-Some.ensures.steps.0 c.in_ok-push.ensures.items c.in_ok-right_in.ensures l.invariant
