use Rattle.std.proofs.Common.{◌≡◌, min, rules}
use Rattle.plan_denote.specs.Distinct.{occurrences}
use Rattle.row_sorts.proofs.SetLaws.{fewest_left}
use Rattle.row_sorts.proofs.sets.fewest.Goals as goal

pub loop-rows-preserved : goal.loop-rows-preserved
loop-rows-preserved c =
    let least : c.min-least.result ≡ min c.loop-rows.least (occurrences c.rows-item.result c.args.row.now) = search rules in
    fewest_left c.loop-rows.least c.min-least.result c.args.inputs.now c.loop-rows.rows-index c.rows-item.result c.args.row.now _ c.loop-rows-test.true c.rows-item.is least c.loop-rows.invariant
