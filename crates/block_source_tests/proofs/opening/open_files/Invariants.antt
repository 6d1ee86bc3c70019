use Rattle.std.proofs.Common.{◌≡◌, Some, map, vec_len}
use Rattle.block_source.specs.Seen.{AreHeads}
use Rattle.block_source_tests.proofs.opening.open_files.Given as goal

abbrev pub invariant-loop-name : goal.invariant-loop-name
invariant-loop-name l = record {
  count : vec_len l.readers ≡ vec_len l.files;
  heads : AreHeads l.files.items (map (λ reader. Some reader.bytes) l.readers.items);
}
