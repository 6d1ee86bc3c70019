use Rattle.std.proofs.Common.{◌≡◌, map, take}
use Rattle.std.specs.List.{flat_map, All}
use Rattle.arrow_meta.specs.Messages.{block_bytes}
use Rattle.arrow_meta.specs.Meta.{place_of}
use Rattle.arrow_meta.specs.Written.{IsBlock}
use Rattle.arrow_meta.proofs.write.structs.blocks_bytes.Given as goal

abbrev pub invariant-loop-block : goal.invariant-loop-block
invariant-loop-block l = record {
  bytes : l.out.items ≡ flat_map block_bytes (map place_of (take l.block-index l.blocks));
  fits : All IsBlock (take l.block-index l.blocks);
}
