use Rattle.std.proofs.Common.{◌≡◌}
use Rattle.plan_denote.specs.Read.{row_fault}
use Rattle.row_steps.proofs.read.row_fault.Given as goal

-- what is left answers as all do
abbrev pub invariant-loop-ty : goal.invariant-loop-ty
invariant-loop-ty l = row_fault l.ty-iterator.a.rest.now l.ty-iterator.b.rest.now ≡ row_fault l.fn.types l.fn.row
