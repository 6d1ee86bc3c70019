use Rattle.std.proofs.Common.{◌∙◌, ◌++◌, ap, arith}
use Rattle.pb_wire.specs.Records.{Bytes}
use Rattle.pb_write.specs.Write.{record_bytes}
use Rattle.spell_leaves.proofs.FrontLaws.{block_front}
use Rattle.spell_leaves.proofs.write.write_blocks.Goals as goal

pub loop-left-preserved : goal.loop-left-preserved
loop-left-preserved c = (
  omega (arith, c.loop-left.invariant.0),
  block_front c.args.number c.args.blocks.now c.loop-left.left c.index-blocks-left.result c.index-blocks-left.result c.args.out.now c.loop-left.out c.write_bytes.new.out c.loop-left-test.true c.loop-left.invariant.0 c.index-blocks-left.is c.loop-left.invariant.1
      (c.in_ok-write_bytes.ensures ∙ ap (λ b. record_bytes (record { number = c.args.number; content = Bytes b }) ++ c.loop-left.out) c.bytes.ensures),
)
