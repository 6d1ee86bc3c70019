-- The first values of the three arguments.
use Rattle.sub_types.specs.Value.{InKind}
use Rattle.batch_nodes.specs.Found.{found_values}
use Rattle.call_kernels.specs.Made.{applied_three}
use Rattle.call_kernels.specs.Operand.{values}
use Rattle.batch_calls.proofs.KernelLaws.{first_long, kinds_first_three, made_first_three}
use Rattle.batch_calls.proofs.apply.kernel_of_three.Goals as goal

pub call_three-requires-clause-a : goal.call_three-requires-clause-a
call_three-requires-clause-a c = first_long c.args.n (found_values c.args.a.now) (values c.args.n c.in-Some.first) c.in-Some.ensures c.requires.a

pub call_three-requires-clause-in_kind : goal.call_three-requires-clause-in_kind
call_three-requires-clause-in_kind c =
    kinds_first_three (applied_three c.args.func c.args.ty.kind c.args.mode c.args.given.now) c.args.n (found_values c.args.a.now) (found_values c.args.b.now) (found_values c.args.c.now)
    (values c.args.n c.in-Some.first) (values c.args.n c.in-Some-operand_of.second) (values c.args.n c.in-Some-operand_of-2.third)
    c.in-Some.ensures c.in-Some-operand_of.ensures c.in-Some-operand_of-2.ensures (InKind c.args.ty.kind) c.requires.in_kind

pub returns : goal.returns
returns c =
    made_first_three (applied_three c.args.func c.args.ty.kind c.args.mode c.args.given.now) c.args.n (found_values c.args.a.now) (found_values c.args.b.now) (found_values c.args.c.now)
    (values c.args.n c.in-Some.first) (values c.args.n c.in-Some-operand_of.second) (values c.args.n c.in-Some-operand_of-2.third)
    c.in-Some.ensures c.in-Some-operand_of.ensures c.in-Some-operand_of-2.ensures c.args.ty c.call_three.result c.call_three.ensures
