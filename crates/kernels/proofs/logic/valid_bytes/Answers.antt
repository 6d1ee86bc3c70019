use Rattle.std.proofs.Common.{arith}
use Rattle.kernels.specs.Truths.{valid_eight}
use Rattle.kernels.proofs.TruthLaws.{AreMade-none, AreMade-more, AreMade-all}
use Rattle.kernels.proofs.logic.valid_bytes.Goals as goal

pub loop-i-init : goal.loop-i-init
loop-i-init c = AreMade-none (valid_eight c.args.connective) c.args.a.now c.args.a_valid.now c.args.b.now c.args.b_valid.now c.in_ok-bytes.bytes.items (omega (arith, c.in_ok-bytes.ensures.len, c.in_ok-bytes.bytes.ok.0))

pub loop-i-preserved : goal.loop-i-preserved
loop-i-preserved c = AreMade-more (valid_eight c.args.connective) c.args.a.now c.args.a_valid.now c.args.b.now c.args.b_valid.now c.loop-i.bytes.items c.loop-i.i _ c.loop-i.invariant c.loop-i-test.true c.valid_eight.ensures

pub returns : goal.returns
returns c = AreMade-all (valid_eight c.args.connective) c.args.a.now c.args.a_valid.now c.args.b.now c.args.b_valid.now c.loop-i.bytes.items c.loop-i.i c.loop-i.invariant c.loop-i-test.false
