use Rattle.std.proofs.Common.{arith}
use Rattle.eval_values.proofs.Exact.{too_many}
use Rattle.eval_values.proofs.number.times_ten_to.Goals as goal

pub returns-then-exponent-gt-MOST_DIGITS : goal.returns-then-exponent-gt-MOST_DIGITS
returns-then-exponent-gt-MOST_DIGITS c = too_many c.args.n c.args.exponent c.if-n-eq0.false (omega arith)
