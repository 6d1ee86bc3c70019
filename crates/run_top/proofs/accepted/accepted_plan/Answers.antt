use Rattle.std.proofs.Common.{subst}
use Rattle.std.specs.Prelude.{IfSome}
use Rattle.std.specs.FinMap.{get}
use Rattle.run_top.specs.Found.{IsFound}
use Rattle.run_top.proofs.AnswerLaws.{too_long}
use Rattle.run_top.proofs.accepted.accepted_plan.Goals as goal

pub returns-in-Ok-TooLong-clause-refused : goal.returns-in-Ok-TooLong-clause-refused
returns-in-Ok-TooLong-clause-refused g c = λ files told.
    let one = c.in-Ok-TooLong.field-0 in
    let name = c.args.name.now in
    too_long files name one (subst (λ some. IfSome some (λ there. IsFound one (get there name))) told c.in-Ok-TooLong.ensures.found) c.in-Ok-TooLong.field-0-is
