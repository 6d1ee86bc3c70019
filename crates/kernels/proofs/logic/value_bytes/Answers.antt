use Rattle.std.proofs.Common.{arith}
use Rattle.kernels.specs.Truths.{value_eight}
use Rattle.kernels.proofs.TruthLaws.{AreMade-none, AreMade-more, AreMade-all}
use Rattle.kernels.proofs.logic.value_bytes.Goals as goal

pub loop-i-init : goal.loop-i-init
loop-i-init c = AreMade-none (value_eight c.args.connective) c.args.a.now c.args.a_valid.now c.args.b.now c.args.b_valid.now c.in_ok-bytes.bytes.items (omega (arith, c.in_ok-bytes.ensures.len, c.in_ok-bytes.bytes.ok.0))

pub loop-i-preserved : goal.loop-i-preserved
loop-i-preserved c = AreMade-more (value_eight c.args.connective) c.args.a.now c.args.a_valid.now c.args.b.now c.args.b_valid.now c.loop-i.bytes.items c.loop-i.i _ c.loop-i.invariant c.loop-i-test.true c.value_eight.ensures

pub returns : goal.returns
returns c = AreMade-all (value_eight c.args.connective) c.args.a.now c.args.a_valid.now c.args.b.now c.args.b_valid.now c.loop-i.bytes.items c.loop-i.i c.loop-i.invariant c.loop-i-test.false
