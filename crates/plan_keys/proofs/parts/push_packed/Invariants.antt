use Rattle.std.proofs.Common.{◌≡◌, ◌<◌, ◌≤◌, ◌^◌, ◌++◌, drop}
use Rattle.std.specs.List.{list_all}
use Rattle.plan_keys.specs.Keys.{is_byte, packed}
use Rattle.plan_keys.proofs.parts.push_packed.Given as goal

-- the first so many bytes are written or in the number, which is below the limit
abbrev pub invariant-loop-byte : goal.invariant-loop-byte
invariant-loop-byte l = record {
  below : l.number < l.limit;
  written : l.out.items ++ packed l.limit l.number (drop l.byte-index l.bytes) ≡ l.fn.out.items ++ packed 1 0 l.bytes;
  bytes : list_all is_byte (drop l.byte-index l.bytes) ≡ list_all is_byte l.bytes;
  most : l.limit ≤ 2 ^ 120;
}
