use Rattle.std.proofs.Common.{◌^◌, ◌≤◌, arith, lit<}
use Rattle.std.proofs.Math.Nat.{pow-le-pow_right}
use Rattle.plan_rules.proofs.literals.has_digits.Goals as goal

pub pow-requires : goal.pow-requires
pow-requires c =
    let most : 10 ^ c.from.result ≤ 10 ^ 38 = pow-le-pow_right (lit< tt) {i = c.from.result} {j = 38} (omega arith) in
    omega (arith, most)
