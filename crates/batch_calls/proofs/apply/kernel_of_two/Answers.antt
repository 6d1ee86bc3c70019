-- The first values of both arguments.
use Rattle.sub_types.specs.Value.{InKind}
use Rattle.batch_nodes.specs.Found.{found_values}
use Rattle.call_kernels.specs.Made.{applied_two}
use Rattle.call_kernels.specs.Operand.{values}
use Rattle.batch_calls.proofs.KernelLaws.{first_long, kinds_first, made_first_if}
use Rattle.batch_calls.proofs.apply.kernel_of_two.Goals as goal

pub call_two-requires-clause-a : goal.call_two-requires-clause-a
call_two-requires-clause-a c = first_long c.args.n (found_values c.args.a.now) (values c.args.n c.in-Some.left) c.in-Some.ensures c.requires.a

pub call_two-requires-clause-b : goal.call_two-requires-clause-b
call_two-requires-clause-b c = first_long c.args.n (found_values c.args.b.now) (values c.args.n c.in-Some-operand_of.right) c.in-Some-operand_of.ensures c.requires.b

pub call_two-requires-clause-in_kind : goal.call_two-requires-clause-in_kind
call_two-requires-clause-in_kind c =
    kinds_first (applied_two c.args.func c.args.ty.kind c.args.mode c.args.given.now) c.args.n (found_values c.args.a.now) (found_values c.args.b.now) (values c.args.n c.in-Some.left) (values c.args.n c.in-Some-operand_of.right)
    c.in-Some.ensures c.in-Some-operand_of.ensures (InKind c.args.ty.kind) c.requires.in_kind

pub returns : goal.returns
returns c =
    made_first_if (applied_two c.args.func c.args.ty.kind c.args.mode c.args.given.now) c.args.n (found_values c.args.a.now) (found_values c.args.b.now) (values c.args.n c.in-Some.left) (values c.args.n c.in-Some-operand_of.right)
    c.in-Some.ensures c.in-Some-operand_of.ensures c.args.ty c.call_two.result c.call_two.ensures
