use Rattle.block_rows.proofs.MadeLaws.{file_within}
use Rattle.block_rows.proofs.work.make_of.Goals as goal

pub whole_rows-requires : goal.whole_rows-requires
whole_rows-requires c = record { file = file_within c.args.rows.now c.args.number c.in-Some.place c.in-Some.ensures }

pub bad_rows-requires : goal.bad_rows-requires
bad_rows-requires c = record { file = file_within c.args.rows.now c.args.number c.in-Some.place c.in-Some.ensures }
