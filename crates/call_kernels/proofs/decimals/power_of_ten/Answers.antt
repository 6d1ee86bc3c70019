use Rattle.std.proofs.Common.{◌≤◌, arith}
use Rattle.call_kernels.proofs.DecimalLaws.{power_small}
use Rattle.call_kernels.proofs.decimals.power_of_ten.Goals as goal

pub pow-requires : goal.pow-requires
pow-requires c =
    let l : c.from.result ≤ 38 = omega arith in
    omega (arith, power_small c.from.result l)

pub returns-clause-bound : goal.returns-clause-bound
returns-clause-bound c =
    let l : c.from.result ≤ 38 = omega arith in
    omega (arith, power_small c.from.result l)
