-- The first values of the argument.
use Rattle.batch_nodes.specs.Found.{found_values}
use Rattle.call_kernels.specs.Made.{applied_one}
use Rattle.call_kernels.specs.Operand.{values}
use Rattle.batch_calls.proofs.KernelLaws.{first_long, made_first_each}
use Rattle.batch_calls.proofs.apply.kernel_of_one.Goals as goal

pub call_one-requires : goal.call_one-requires
call_one-requires c = first_long c.args.n (found_values c.args.a.now) (values c.args.n c.in-Some.only) c.in-Some.ensures c.requires

pub returns : goal.returns
returns c =
    made_first_each (applied_one c.args.func c.args.ty.kind) c.args.n (found_values c.args.a.now) (values c.args.n c.in-Some.only) c.args.ty c.call_one.result c.in-Some.ensures c.call_one.ensures
