use Rattle.run_accepted.proofs.RowLaws.{few_rows}
use Rattle.run_accepted.proofs.write.write_counted.Goals as goal

pub write_file-requires-clause-few_rows : goal.write_file-requires-clause-few_rows
write_file-requires-clause-few_rows g c κs within = few_rows c.args.batches.now c.requires.few_rows
