use Rattle.std.proofs.Common.{◌+◌, ◌∙◌, arith}
use Rattle.eval_values.proofs.Written.{more_all_digits, more_digits, too_long}
use Rattle.eval_values.proofs.digits.unsigned_of.Goals as goal

pub returns-in_default : goal.returns-in_default
returns-in_default c =
    let range = c.if-not-is_ascii_digit.ensures.cases in
    let more = more_digits c.args.digits.now c.loop-digit.digit-index c.loop-digit.n c.loop-digit-test.true c.loop-digit.invariant.1 range.0 range.1 in
    too_long c.args.digits.now (c.loop-digit.digit-index + 1) (omega (arith, c.in_default.ensures, more))

pub loop-digit-preserved : goal.loop-digit-preserved
loop-digit-preserved c =
    let range = c.if-not-is_ascii_digit.ensures.cases in (
      more_all_digits c.args.digits.now c.loop-digit.digit-index c.loop-digit-test.true c.loop-digit.invariant.0 range.0 range.1,
      c.in-Some.ensures.1 ∙ more_digits c.args.digits.now c.loop-digit.digit-index c.loop-digit.n c.loop-digit-test.true c.loop-digit.invariant.1 range.0 range.1,
    )
