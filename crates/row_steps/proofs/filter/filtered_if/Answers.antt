use Rattle.std.proofs.Common.{sym}
use Rattle.row_steps.specs.Seen.{seen}
use Rattle.row_steps.proofs.FilterLaws.{kept}
use Rattle.row_steps.proofs.filter.filtered_if.Goals as goal

pub returns-in-None : goal.returns-in-None
returns-in-None c = rw c.in-None.is (sym (kept c.args.number (seen c.args.input)))
