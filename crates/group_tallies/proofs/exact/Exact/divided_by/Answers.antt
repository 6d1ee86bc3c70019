use Rattle.group_tallies.proofs.TotalLaws.{quotient_by_parts}
use Rattle.group_tallies.proofs.exact.Exact.divided_by.Goals as goal

pub returns-clause-size : goal.returns-clause-size
returns-clause-size c = quotient_by_parts c.args.self.high c.args.self.low c.args.count c.requires.some
