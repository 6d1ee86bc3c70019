use Rattle.std.proofs.Common.{◌≡◌, map, take}
use Rattle.std.specs.List.{flat_map, All}
use Rattle.arrow_meta.specs.Messages.{pair_bytes}
use Rattle.arrow_meta.specs.Meta.{unsigned_pair}
use Rattle.arrow_meta.specs.Written.{IsPair}
use Rattle.arrow_meta.proofs.write.structs.pairs_bytes.Given as goal

abbrev pub invariant-loop-pair : goal.invariant-loop-pair
invariant-loop-pair l = record {
  bytes : l.out.items ≡ flat_map pair_bytes (map unsigned_pair (take l.pair-index l.pair-items));
  fits : All IsPair (take l.pair-index l.pair-items);
}
