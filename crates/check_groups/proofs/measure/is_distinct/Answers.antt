use Rattle.std.proofs.Common.{sym}
use Rattle.check_exprs.proofs.CheckedLaws.{function_distinct}
use Rattle.check_groups.proofs.measure.is_distinct.Goals as goal

pub returns : goal.returns
returns c terms = sym (function_distinct terms c.args.function.now)
