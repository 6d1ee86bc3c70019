use Rattle.std.proofs.Common.{◌≡◌, ◌≤◌, ◌*◌, ◌^◌, vec_len, take}
use Rattle.block_source.specs.Places.{places_from, counts_of}
use Rattle.block_source.proofs.table.TableBlocks.new.Given as goal

abbrev pub invariant-loop-file : goal.invariant-loop-file
invariant-loop-file l = record {
  placed : l.places.items ≡ places_from 0 (take l.file (counts_of l.fn.files.items));
  few : vec_len l.places ≤ l.file * 2 ^ 32;
}
