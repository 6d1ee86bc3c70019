use Rattle.std.proofs.Common.{◌≡◌, ◌++◌, map}
use Rattle.std.specs.Vec.Iter.{into_iter_items}
use Rattle.pipe_parts.specs.declared.part.Part.TheVariants as kept
use Rattle.pipe_ends.proofs.taking.partials_in.Given as goal

-- those so far, and the parts that are left
abbrev pub invariant-loop-part : goal.invariant-loop-part
invariant-loop-part l = map kept.Groups l.partials.items ++ into_iter_items l.part-iterator ≡ l.fn.parts.items
