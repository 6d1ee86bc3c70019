-- The results of decimals, by which of the two is a column.
use Rattle.call_kernels.proofs.arithmetic.arith_numbers.Goals as goal

pub returns-in-Column-b-clause-decimal : goal.returns-in-Column-b-clause-decimal
returns-in-Column-b-clause-decimal g c = rw (c.in-Column.is, c.in-Column-b.is) c.arith_both.ensures.decimal

pub returns-in-Constant-b-clause-decimal : goal.returns-in-Constant-b-clause-decimal
returns-in-Constant-b-clause-decimal g c = rw (c.in-Column.is, c.in-Constant-b.is) c.arith_right.ensures.decimal

pub returns-in-Column-b-2-clause-decimal : goal.returns-in-Column-b-2-clause-decimal
returns-in-Column-b-2-clause-decimal g c = rw (c.in-Constant.is, c.in-Column-b-2.is) c.arith_left.ensures.decimal
