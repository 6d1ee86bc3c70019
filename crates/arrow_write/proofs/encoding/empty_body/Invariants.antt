use Rattle.std.proofs.Common.{take, []}
use Rattle.arrow_write.specs.Bodies.{HasRows}
use Rattle.arrow_write.proofs.encoding.empty_body.Given as goal

abbrev pub invariant-loop-ty : goal.invariant-loop-ty
invariant-loop-ty l = HasRows (take l.ty-index l.types) [] l.body
