-- The function at each place.
use Rattle.sub_types.specs.Value.{InKind}
use Rattle.plan_denote.specs.Calls.{binary}
use Rattle.kernels.specs.Arith.{func_of}
use Rattle.call_kernels.specs.Made.{applied_two}
use Rattle.call_kernels.specs.Operand.{values}
use Rattle.call_kernels.proofs.MadeLaws.{made_as_if, holds_as, named, computed_as}
use Rattle.call_kernels.proofs.call.by_arithmetic.Goals as goal

pub arith_two-requires-clause-in_kind : goal.arith_two-requires-clause-in_kind
arith_two-requires-clause-in_kind c =
    let kind = c.args.ty.kind in
    let f = binary (func_of c.args.op) kind c.args.mode c.args.given.now in
    holds_as (InKind kind) f (applied_two c.args.func kind c.args.mode c.args.given.now) (values c.args.n c.args.a) (values c.args.n c.args.b) c.args.n
    (named func_of c.args.func c.args.op f kind c.args.mode c.args.given.now c.requires.of (computed_as c.args.op kind c.args.mode c.args.given.now))
    c.requires.in_kind

pub returns : goal.returns
returns c =
    let kind = c.args.ty.kind in
    let f = binary (func_of c.args.op) kind c.args.mode c.args.given.now in
    made_as_if f (applied_two c.args.func kind c.args.mode c.args.given.now) (values c.args.n c.args.a) (values c.args.n c.args.b) c.args.n c.args.ty c.arith_two.result
    (named func_of c.args.func c.args.op f kind c.args.mode c.args.given.now c.requires.of (computed_as c.args.op kind c.args.mode c.args.given.now))
    c.arith_two.ensures
