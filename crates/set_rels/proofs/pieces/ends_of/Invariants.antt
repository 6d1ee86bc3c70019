use Rattle.std.proofs.Common.{◌≡◌, ◌++◌, drop, map}
use Rattle.set_places.specs.Taken.{ends_from}
use Rattle.set_rels.specs.Inputs.{rows_in}
use Rattle.set_rels.proofs.pieces.ends_of.Given as goal

-- the ends so far, and those of the inputs that are left
abbrev pub invariant-loop-input : goal.invariant-loop-input
invariant-loop-input l = l.ends.items ++ ends_from l.end (map (λ input. rows_in input.items) (drop l.input-index l.inputs)) ≡ ends_from 0 (map (λ input. rows_in input.items) l.fn.inputs)
