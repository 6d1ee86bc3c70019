use Rattle.std.proofs.Common.{◌≡◌, drop, map}
use Rattle.plan_denote.specs.Sets.{first_fault}
use Rattle.set_rels.specs.Inputs.{stream_of}
use Rattle.set_rels.proofs.pieces.first_fault.Given as goal

-- what is left answers as all do
abbrev pub invariant-loop-input : goal.invariant-loop-input
invariant-loop-input l = first_fault (map (λ input. stream_of input.items) (drop l.input-index l.inputs)) ≡ first_fault (map (λ input. stream_of input.items) l.fn.inputs)
