use Rattle.std.proofs.Common.{sym, subst}
use Rattle.group_sets.specs.Finals.{AreFinal}
use Rattle.group_sets.specs.States.{Stands}
use Rattle.group_sets.proofs.FinalLaws.{final_many}
use Rattle.group_sets.proofs.finals.state_rows.Goals as goal

pub known_rows-requires : goal.known_rows-requires
known_rows-requires c = subst (Stands c.args.spec.now) c.in-Known.is c.requires

pub returns-in-TooMany-clause-rows : goal.returns-in-TooMany-clause-rows
returns-in-TooMany-clause-rows c =
    let out = c.no_rows-in-TooMany in
    subst (λ state. AreFinal c.args.spec.now state out.result) (sym c.in-TooMany.is) (final_many c.args.spec.now out.result out.ensures.rows out.ensures.end)

pub returns-in_ok-rows-in-Known-clause-rows : goal.returns-in_ok-rows-in-Known-clause-rows
returns-in_ok-rows-in-Known-clause-rows c =
    let out = c.in_ok-rows-in-Known in
    subst (λ state. AreFinal c.args.spec.now state out.rows) (sym c.in-Known.is) out.ensures
