-- Both arguments are of the result's kind.
use Rattle.call_kernels.specs.Operand.{values}
use Rattle.call_kernels.proofs.PlaceLaws.{in_kind_of}
use Rattle.call_kernels.proofs.arithmetic.arith_whole.Goals as goal

pub arith_i8-requires-clause-in_kind : goal.arith_i8-requires-clause-in_kind
arith_i8-requires-clause-in_kind c = in_kind_of c.args.op c.args.mode c.args.ty c.args.given.now (values c.args.n c.args.a) (values c.args.n c.args.b) c.args.n (c.are_of.ensures c.if-not-are_of.false) c.requires.in_kind

pub arith_i16-requires-clause-in_kind : goal.arith_i16-requires-clause-in_kind
arith_i16-requires-clause-in_kind c = in_kind_of c.args.op c.args.mode c.args.ty c.args.given.now (values c.args.n c.args.a) (values c.args.n c.args.b) c.args.n (c.are_of.ensures c.if-not-are_of.false) c.requires.in_kind

pub arith_i32-requires-clause-in_kind : goal.arith_i32-requires-clause-in_kind
arith_i32-requires-clause-in_kind c = in_kind_of c.args.op c.args.mode c.args.ty c.args.given.now (values c.args.n c.args.a) (values c.args.n c.args.b) c.args.n (c.are_of.ensures c.if-not-are_of.false) c.requires.in_kind

pub arith_i64-requires-clause-in_kind : goal.arith_i64-requires-clause-in_kind
arith_i64-requires-clause-in_kind c = in_kind_of c.args.op c.args.mode c.args.ty c.args.given.now (values c.args.n c.args.a) (values c.args.n c.args.b) c.args.n (c.are_of.ensures c.if-not-are_of.false) c.requires.in_kind
