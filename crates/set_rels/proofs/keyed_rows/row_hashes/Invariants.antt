use Rattle.std.proofs.Common.{◌≡◌, map, take}
use Rattle.key_hashes.specs.KeyHash.{key_hash}
use Rattle.set_rels.specs.Keyed.{all_rows}
use Rattle.set_rels.proofs.keyed_rows.row_hashes.Given as goal

-- the hashes of the batches so far
abbrev pub invariant-loop-run : goal.invariant-loop-run
invariant-loop-run l = l.hashes.items ≡ map (key_hash l.seed) (all_rows (take l.run-index l.runs))
