use Rattle.std.proofs.Common.{◌≡◌, ◌++◌}
use Rattle.std.specs.List.{flat_map}
use Rattle.std.specs.Vec.Iter.{into_iter_items}
use Rattle.pipe_ends.specs.Held.{right_in}
use Rattle.pipe_ends.proofs.taking.rights_in.Given as goal

-- those so far, and the parts that are left
abbrev pub invariant-loop-part : goal.invariant-loop-part
invariant-loop-part l = l.rights.items ++ flat_map right_in (into_iter_items l.part-iterator) ≡ flat_map right_in l.fn.parts.items
