use Rattle.std.proofs.Common.{map}
use Rattle.plan_tables.specs.Open.{open_seen}
use Rattle.run_accepted.proofs.AcceptedLaws.{accepted_typed, accepted_awaits}
use Rattle.run_accepted.proofs.rows.rows_of_opened.Goals as goal

pub gather_plan-requires-clause-typed : goal.gather_plan-requires-clause-typed
gather_plan-requires-clause-typed g c κs within = accepted_typed c.args.plan.now c.requires.accepted

pub gather_plan-requires-clause-awaited : goal.gather_plan-requires-clause-awaited
gather_plan-requires-clause-awaited g c κs within = accepted_awaits c.args.plan.now c.requires.accepted

pub returns-in-Ok-clause-rows : goal.returns-in-Ok-clause-rows
returns-in-Ok-clause-rows g c = λ told.
    let opened = map (open_seen g.F.R.Reader.bytes) c.args.opened.items in
    c.rows_of_gathered.ensures.rows c.args.crew.now.workers opened (c.in-Ok.ensures.rows.over told) c.in-Ok.ensures.receipts
