use Rattle.std.proofs.Common.{◌≡◌, take}
use Rattle.std.specs.List.{All}
use Rattle.col_fixed.proofs.fixed.are_full.Given as goal

abbrev pub invariant-loop-byte : goal.invariant-loop-byte
invariant-loop-byte l = l.all ≡ 255 → All (λ byte. byte ≡ 255) (take l.byte-index l.bytes)
