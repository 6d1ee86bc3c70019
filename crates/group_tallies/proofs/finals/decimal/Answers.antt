use Rattle.std.proofs.Common.{◌≤◌, arith}
use Rattle.group_tallies.proofs.TotalLaws.{power_small}
use Rattle.group_tallies.proofs.finals.decimal.Goals as goal

pub pow-requires : goal.pow-requires
pow-requires c =
    let few : c.from.result ≤ 38 = omega arith in
    omega (arith, power_small c.from.result few)
