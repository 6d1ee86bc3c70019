use Rattle.std.proofs.Common.{◌≡◌, ◌+◌, ◌++◌, vec_len}
use Rattle.block_source.specs.Places.{places_in}
use Rattle.block_source.proofs.table.push_places.Given as goal

abbrev pub invariant-loop-block : goal.invariant-loop-block
invariant-loop-block l = record {
  places : l.places.items ≡ l.fn.places.items ++ places_in l.fn.file l.block;
  len : vec_len l.places ≡ vec_len l.fn.places + l.block;
}
