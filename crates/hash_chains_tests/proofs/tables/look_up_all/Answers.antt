use Rattle.std.proofs.Common.{◌∙◌, ap, sym}
use Rattle.batch.specs.BatchRows.{types_of}
use Rattle.join_keys.specs.Storages.{key_storages}
use Rattle.hash_chains_tests.specs.declared.counted.Counted.{Counted}
use Rattle.hash_chains_tests.proofs.tables.look_up_all.Goals as goal

pub has_match-requires-clause-alike : goal.has_match-requires-clause-alike
has_match-requires-clause-alike c =
    c.in_ok-others.ensures ∙ sym (ap (λ (keys : Counted). key_storages (types_of keys.rows.batch) keys.rows.columns.items) c.in_ok-chains.ensures.keys ∙ c.in_ok-keys.ensures)
