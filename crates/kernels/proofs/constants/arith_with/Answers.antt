use Rattle.kernels.proofs.ConstantLaws.{nulls-whole, nulls-decimal}
use Rattle.kernels.proofs.constants.arith_with.Goals as goal

pub returns-in-Some-clause-whole : goal.returns-in-Some-clause-whole
returns-in-Some-clause-whole g c = rw c.in-Some.is c.arith_constant.ensures.whole

pub returns-in-Some-clause-decimal : goal.returns-in-Some-clause-decimal
returns-in-Some-clause-decimal g c = rw c.in-Some.is c.arith_constant.ensures.decimal

pub returns-in-None-clause-whole : goal.returns-in-None-clause-whole
returns-in-None-clause-whole g c =
    rw (c.in-None.is) (nulls-whole g.T.Native.number c.args.op c.args.mode g.T.Native.width (g.T.Native.number c.args.least) (g.T.Native.number c.args.greatest) c.args.a c.null_rows.result (rw c.len.ensures at c.null_rows.ensures.values) c.null_rows.ensures.stop)

pub returns-in-None-clause-decimal : goal.returns-in-None-clause-decimal
returns-in-None-clause-decimal g c =
    rw (c.in-None.is) (nulls-decimal g.T.Native.number c.args.op c.args.mode g.T.Native.width (g.T.Native.number c.args.least) (g.T.Native.number c.args.greatest) c.args.a c.null_rows.result (rw c.len.ensures at c.null_rows.ensures.values) c.null_rows.ensures.stop)
