use Rattle.std.proofs.Common.{◌≡◌, drop}
use Rattle.pipe_ends.specs.Held.{end_among}
use Rattle.pipe_ends.proofs.ends.end_among.Given as goal

-- what is left ends as all do
abbrev pub invariant-loop-part : goal.invariant-loop-part
invariant-loop-part l = end_among (drop l.part-index l.parts) ≡ end_among l.fn.parts
