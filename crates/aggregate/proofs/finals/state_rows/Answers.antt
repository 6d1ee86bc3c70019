use Rattle.std.proofs.Common.{sym, subst}
use Rattle.aggregate.specs.Finals.{AreFinal}
use Rattle.aggregate.proofs.FinalLaws.{final_many, final_known}
use Rattle.aggregate.proofs.finals.state_rows.Goals as goal

pub returns-in-TooMany-clause-rows : goal.returns-in-TooMany-clause-rows
returns-in-TooMany-clause-rows c =
    let out = c.no_rows-in-TooMany in
    subst (λ state. AreFinal c.args.spec.now state out.result) (sym c.in-TooMany.is) (final_many c.args.spec.now out.result out.ensures.rows out.ensures.end)

pub returns-in_ok-rows-in-Known-clause-rows : goal.returns-in_ok-rows-in-Known-clause-rows
returns-in_ok-rows-in-Known-clause-rows c =
    let out = c.in_ok-rows-in-Known in
    subst (λ state. AreFinal c.args.spec.now state out.rows) (sym c.in-Known.is) (final_known c.args.spec.now _ out.rows out.ensures)
