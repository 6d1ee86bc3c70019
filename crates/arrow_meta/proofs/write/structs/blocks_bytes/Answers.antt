use Rattle.std.proofs.Common.{arith, map, take, ◌∙◌}
use Rattle.arrow_meta.specs.Meta.{place_of}
use Rattle.arrow_meta.proofs.Lengths.{blocks_are_structs}
use Rattle.std.proofs.lemmas.Grind.{common_steps}
use Rattle.std.proofs.lemmas.List.Elements.{All-more}
use Rattle.arrow_meta.specs.Written.{IsBlock}
use Rattle.arrow_meta.proofs.write.structs.blocks_bytes.Goals as goal

pub returns-clause-structs : goal.returns-clause-structs
returns-clause-structs c =
    blocks_are_structs c.from_vec.result (map place_of (take c.loop-block.block-index c.args.blocks.now)) (c.from_vec.ensures ∙ c.loop-block.invariant.bytes)

pub loop-block-preserved : goal.loop-block-preserved
loop-block-preserved c = record {
  bytes = grind (arith, common_steps);
  fits = All-more IsBlock c.args.blocks.now c.loop-block.block-index _ (omega arith) c.loop-block.invariant.fits c.in_ok-put_block.ensures.fits;
}
