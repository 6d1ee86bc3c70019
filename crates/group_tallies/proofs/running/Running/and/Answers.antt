use Rattle.std.proofs.Common.{arith}
use Rattle.std.proofs.lemmas.Int.{ints}
use Rattle.group_tallies.proofs.RunningLaws.{both_sums}
use Rattle.group_tallies.proofs.running.Running.and.Goals as goal

pub returns-clause-total : goal.returns-clause-total
returns-clause-total c = both_sums c.args.self.high c.args.later.high c.args.self.low c.args.later.low (omega arith) (omega arith) (omega arith) (omega arith) (omega (arith, ints))
