use Rattle.std.proofs.Common.{◌≤◌, arith}
use Rattle.eval_values.proofs.Exact.{power_small}
use Rattle.eval_values.proofs.number.power_of_ten.Goals as goal

pub pow-requires : goal.pow-requires
pow-requires c =
    let l : c.from.result ≤ 38 = omega arith in
    omega (arith, power_small c.from.result l)

pub returns-clause-bound : goal.returns-clause-bound
returns-clause-bound c =
    let l : c.from.result ≤ 38 = omega arith in
    omega (arith, power_small c.from.result l)
