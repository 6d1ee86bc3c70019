-- What isn't there is null.
use Rattle.std.proofs.Common.{◌∙◌}
use Rattle.call_kernels.specs.Operand.{values}
use Rattle.call_kernels.proofs.NullLaws.{nulls_not}
use Rattle.call_kernels.proofs.nulls.is_null_one.Goals as goal

pub returns : goal.returns
returns c = λ n. c.in_ok-not3.ensures ∙ nulls_not c.in-Some.there (values n c.args.a) ((rw c.in-Some.is at c.in_ok-there.ensures) n)
