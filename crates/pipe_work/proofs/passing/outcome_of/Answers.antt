use Rattle.batch.specs.BatchRows.{stream_of_piece}
use Rattle.pipe_work.proofs.KeptLaws.{ended_of, made_of}
use Rattle.pipe_work.proofs.passing.outcome_of.Goals as goal

pub returns-in-None : goal.returns-in-None
returns-in-None c = made_of c.args.pipe.now (stream_of_piece c.args.piece) c.in_ok-passed.passed c.in_ok-kept.kept c.in_ok-passed.ensures c.in-None.is c.in_ok-kept.ensures

pub returns-in-Some : goal.returns-in-Some
returns-in-Some c = ended_of c.args.pipe.now (stream_of_piece c.args.piece) c.in_ok-passed.passed c.in_ok-kept.kept c.in-Some.fault c.in_ok-passed.ensures c.in-Some.is c.in_ok-kept.ensures
