use Rattle.std.proofs.Common.{length}
use Rattle.set_rels.proofs.KeyedLaws.{columns_within, columns_of_run, hashes_more}
use Rattle.set_rels.proofs.keyed_rows.row_hashes.Goals as goal

pub hash_keys-requires : goal.hash_keys-requires
hash_keys-requires c =
    columns_within c.args.columns.now (length c.run-item.result.columns.items)
    (columns_of_run c.args.columns.now c.args.runs.now c.loop-run.run-index c.run-item.result c.requires c.loop-run-test.true c.run-item.is)

pub loop-run-preserved : goal.loop-run-preserved
loop-run-preserved c =
    hashes_more c.args.seed c.args.columns.now c.args.runs.now c.loop-run.run-index c.run-item.result c.loop-run.hashes.items c.in_ok-more.more.items c.append.new.self.items c.loop-run-test.true c.run-item.is c.requires
    c.in_ok-more.ensures c.in_ok-append.ensures.items c.loop-run.invariant
