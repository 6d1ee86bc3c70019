use Rattle.std.proofs.Common.{◌∙◌, ◌*◌, arith}
use Rattle.std.proofs.lemmas.List.{length-set}
use Rattle.sub_types.proofs.StepLaws.{Continues-more, Continues-less}
use Rattle.sub_types.proofs.bits.fill.Goals as goal

pub loop-i-preserved : goal.loop-i-preserved
loop-i-preserved c = record {
  filled = Continues-more c.args.bytes.now c.loop-i.bytes c.args.more.now c.args.len c.args.from c.loop-i.i c.byte_from.result c.loop-i.invariant.filled c.loop-i.invariant.next (omega arith) c.byte_from.ensures;
  next = omega arith;
  len = length-set c.loop-i.bytes c.loop-i.i c.byte_from.result ∙ c.loop-i.invariant.len;
}

pub returns-clause-filled : goal.returns-clause-filled
returns-clause-filled c = Continues-less c.args.bytes.now c.loop-i.bytes c.args.more.now c.args.len c.args.from (8 * c.loop-i.i) c.args.grown (omega arith) c.loop-i.invariant.filled
