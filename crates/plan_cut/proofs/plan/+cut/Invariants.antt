-- The inputs so far are cut.
use Rattle.std.proofs.Common.{take}
use Rattle.plan_cut.specs.Cut.{AreCut}
use Rattle.plan_cut.proofs.plan.+cut.Given as goal

abbrev pub invariant-cut_inputs-loop-input : goal.invariant-cut_inputs-loop-input
invariant-cut_inputs-loop-input l = AreCut (take l.input-index l.inputs) l.initial.pipes l.pipes l.places.items
