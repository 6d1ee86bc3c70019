use Rattle.std.proofs.Common.{sym, subst}
use Rattle.group_numbers.specs.Codes.{AreCodes}
use Rattle.group_numbers.proofs.twins.twins_of.Goals as goal

pub returns-in-Some : goal.returns-in-Some
returns-in-Some c =
    let codes = rw c.in-Some.is at c.in_ok-codes.ensures in
    c.in_ok-twins.ensures c.args.columns.now c.args.batch.now (subst (AreCodes c.args.columns.now c.args.batch.now) (sym c.deref.ensures.value) codes)
