use Rattle.std.proofs.Common.{◌^◌, ◌≤◌, arith, lit<}
use Rattle.std.proofs.Math.Nat.{pow-le-pow_right}
use Rattle.arrow_decode.proofs.fixed.all_have_digits.Goals as goal

pub pow-limit-requires : goal.pow-limit-requires
pow-limit-requires c =
    let most : 10 ^ c.from.result ≤ 10 ^ 38 = pow-le-pow_right (lit< tt) {i = c.from.result} {j = 38} (omega arith) in
    omega (arith, most)
