use Rattle.std.proofs.Common.{◌∙◌, ap, ap₂}
use Rattle.batch.specs.declared.batch.Batch.{Batch}
use Rattle.batch.specs.BatchRows.{types_of}
use Rattle.join_keys.specs.declared.keyed_rows.KeyedBatch.{KeyedBatch}
use Rattle.join_keys.specs.Storages.{key_storages}
use Rattle.hash_chains_tests.proofs.ColumnLaws.{first_exists}
use Rattle.hash_chains_tests.proofs.tables.keyed.Goals as goal

pub of-requires-clause-columns : goal.of-requires-clause-columns
of-requires-clause-columns c = first_exists c.args.batch c.in_ok-columns.columns.items c.requires c.in_ok-columns.ensures

pub returns : goal.returns
returns c =
    ap (λ (rows : KeyedBatch). key_storages (types_of rows.batch) rows.columns.items) c.new.ensures
    ∙ ap₂ (λ (batch : Batch) columns. key_storages (types_of batch) columns.items) c.in_ok-keys.ensures.batch c.in_ok-keys.ensures.columns
    ∙ ap₂ key_storages c.requires c.in_ok-columns.ensures
