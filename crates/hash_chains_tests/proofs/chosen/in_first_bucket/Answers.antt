use Rattle.std.proofs.Common.{[], ◌∷◌, refl}
use Rattle.hash_chains_tests.proofs.ColumnLaws.{first_exists}
use Rattle.hash_chains_tests.proofs.chosen.in_first_bucket.Goals as goal

pub hash_keys-requires : goal.hash_keys-requires
hash_keys-requires c = first_exists c.args.batch.now (0 ∷ []) c.requires refl
