use Rattle.std.proofs.Common.{◌∙◌, take, arith}
use Rattle.std.specs.Int.{w128}
use Rattle.std.proofs.lemmas.Int.{to_z-of_z}
use Rattle.kernels.specs.Total.{total}
use Rattle.kernels.proofs.TotalLaws.{Splits-none, Splits-more, quotient_fits, remainder_fits, carried, held_remainder, total-more, total-all}
use Rattle.kernels.proofs.total.split_total.Goals as goal

pub overflow_add-quotient : goal.overflow_add-quotient
overflow_add-quotient g c =
    let part = c.split-part in
    quotient_fits _ _ c.loop-i.i _ _ part.result.quotient part.result.remainder (omega arith) c.loop-i.invariant part.ensures.number part.ensures.quotient_least part.ensures.quotient_most part.ensures.least part.ensures.below

pub overflow_add-remainder : goal.overflow_add-remainder
overflow_add-remainder g c =
    let part = c.split-part in
    remainder_fits _ _ c.loop-i.i _ _ part.result.quotient part.result.remainder (omega arith) c.loop-i.invariant part.ensures.number part.ensures.quotient_least part.ensures.quotient_most part.ensures.least part.ensures.below

pub loop-i-init : goal.loop-i-init
loop-i-init g c = Splits-none

pub loop-i-preserved : goal.loop-i-preserved
loop-i-preserved g c =
    let number = g.T.Native.number in
    let x = c.index-values-i.result in
    let part = c.split-part in
    let n = to_z-of_z w128 c.wide.result (record { sfits = c.wide.type_inv }) ∙ c.wide.ensures.value in
    rw (total-more number c.args.values.now c.loop-i.i x c.loop-i-test.true c.index-values-i.is)
    (Splits-more (total number (take c.loop-i.i c.args.values.now)) (number x) c.loop-i.i _ _ part.result.quotient part.result.remainder (omega arith) c.loop-i.invariant (part.ensures.number ∙ n) part.ensures.quotient_least part.ensures.quotient_most part.ensures.least part.ensures.below)

pub returns : goal.returns
returns g c =
    let number = g.T.Native.number in
    let part = c.split-carried in
    let held = held_remainder part.result.remainder part.ensures.least part.ensures.below in
    record {
      number =
          carried (total number (take c.loop-i.i c.args.values.now)) c.loop-i.i _ _ part.result.quotient part.result.remainder (omega arith) c.loop-i.invariant part.ensures.number part.ensures.quotient_least part.ensures.quotient_most part.ensures.least part.ensures.below
          ∙ total-all number c.args.values.now c.loop-i.i c.loop-i-test.false;
      least = rw held part.ensures.least;
      below = rw held part.ensures.below;
    }
